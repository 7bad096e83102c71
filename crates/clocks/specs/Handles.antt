-- `close_handle` leaves the clock of a timer that is still in use, `duplicate_handle` every one.
use Rattle.std.specs.Prelude.{◌≡◌, eqb}
use Rattle.std.proofs.Math.Path.{refl}
use Rattle.std.proofs.Common.{◌∙◌}
use Prim.Native.Nat.{ℕ}
use Rattle.types.specs.declared.object.ObjectStore.{ObjectStore}
use Rattle.types.specs.declared.kernel.Kernel.{Kernel}
use Rattle.object.specs.declared.handles.Both.{Both}
use Rattle.object.specs.Handles.{object_of, create, close}
use Rattle.soundness.specs.Slots.{pick-both}
use Rattle.svc.specs.declared.Registers.{Registers}
use Rattle.svc.specs.declared.Served.{Served}
use Rattle.svc.specs.Call.{resolved}
use Rattle.svc.specs.Handles.{close_handle, duplicate_handle}
use Rattle.timing.specs.Clock.{clock_at, add_ref-clock}
use Rattle.timing.specs.Keeps.{FirstFree, KeepsClock, release-keeps}
use Rattle.clocks.specs.Resolves.{Used, resolved-clock}

pub close_handle-clock : (k : Kernel) (r : Registers) (o : ℕ) → Used (close_handle k r).kernel.objects o → clock_at (close_handle k r).kernel.objects o ≡ clock_at k.objects o
unfolding close_handle close
close_handle-clock k r o u =
    pick-both (λ (b : Both). KeepsClock k.objects b.store o) (eqb (object_of k.handles r.r0) 0) _ _ (λ h. refl) (release-keeps k.objects (object_of k.handles r.r0) o) u

module _ (k : Kernel) (f : FirstFree k.objects) (o : ℕ) (u : Used k.objects o) where
  pub duplicate_handle-clock : (r : Registers) → clock_at (duplicate_handle k r).kernel.objects o ≡ clock_at k.objects o
  unfolding duplicate_handle create
  duplicate_handle-clock r =
      let s : ObjectStore = (resolved k r.r1).store in
      let q : ℕ = (resolved k r.r1).object.0 in
      pick-both (λ (v : Served). clock_at v.kernel.objects o ≡ clock_at s o) (eqb q 0) _ _ refl (add_ref-clock s q o) ∙ resolved-clock k f o u r.r1
