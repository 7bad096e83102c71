-- A wait on one object that finds a count too large. Assumes nothing.
use Rattle.std.specs.Prelude.{Option, Some, None}
use mathlib.Core.Path.{◌≡◌, refl, sym, ap, ◌∙◌}
use mathlib.Core.Bool.{Bool, true, false}
use mathlib.Core.List.{List, [], ◌∷◌}
use Prim.Native.Nat.{ℕ}
use lib.Dec.{eqb}
use borrow.Author.Tests.{eqb-true}
use Rattle.laws.specs.Logic.{pick, ◌and◌, ◌or◌, and-end, and-false, or-end}
use Rattle.types.specs.declared.thread.Thread as th
use Rattle.types.specs.declared.thread.WaitSyscall.TheVariants.{WaitSynchronization1}
use Rattle.types.specs.declared.sync.Timer as ti
use Rattle.types.specs.declared.object.KObject.{KObject}
use Rattle.types.specs.declared.object.KObject.TheVariants.{Free, Timer, Process}
use Rattle.types.specs.declared.object.ObjectStore.{ObjectStore}
use Rattle.types.specs.declared.kernel.Kernel.{Kernel}
use Rattle.types.specs.Thread.{wait_list}
use Rattle.block.specs.Block.{dec_block}
use Rattle.sound.specs.View.{object_at}
use Rattle.sound.specs.Objects.{KeptOk}
use Rattle.object.specs.Slots.{content}
use Rattle.pass.specs.Asks.{padded, pseudo}
use Rattle.pass.specs.Signal.{is_signaled, acquire_over, acquire}
use Rattle.pass.specs.Timers.{catch_up_timers}
use Rattle.svc.specs.declared.Registers.{Registers}
use Rattle.svc.specs.declared.Served.{Served}
use Rattle.svc.specs.Call.{done, answers, with_objects, pair, resolved}
use Rattle.svc.specs.Waits.{wait_on, wait_unless, wait1_as}
use Rattle.lent.specs.Operations.{finding, out_of_handles?}
use Rattle.outcome.specs.Findings.{found_of, parts-finding, pick-finding}
use Rattle.objects.proofs.Pseudo.{pseudo-object}
use Rattle.wait_calls.specs.Named.{wait1_opened}
use Rattle.wait_calls.specs.Over.{over_now}
use Rattle.wait_calls.proofs.Begins.{begun-finding}
use Rattle.wait_calls.proofs.Still.{caught-same}
use Rattle.wait_calls.proofs.Far.{near_fits, near-kept, near_none}

-- ---- as it is asked
pub over_none : (c : Option ℕ) (ts : List th.Thread) (x : KObject) → acquire_over x ≡ false → over_now c ts x ≡ false
over_none None ts x e = refl
over_none (Some w) ts x e = ap (λ (b : Bool). is_signaled ts x w and b) e ∙ and-false (is_signaled ts x w)

pub over-some : (w : ℕ) (ts : List th.Thread) (x : KObject) → acquire_over x ≡ true → is_signaled ts x w ≡ over_now (Some w) ts x
over-some w ts x e = sym (and-end (is_signaled ts x w)) ∙ ap (λ (b : Bool). is_signaled ts x w and b) (sym e)

-- ---- catching up with the timers changes nothing of it
over_timer : (c : Option ℕ) (ts : List th.Thread) (t : ti.Timer) → over_now c ts Process ≡ over_now c ts (Timer t)
unfolding ◌and◌
over_timer None ts t = refl
over_timer (Some w) ts t = sym (and-false t.signaled)

pub over-caught : (c : Option ℕ) (ts : List th.Thread) (s : ObjectStore) (tick o : ℕ) → over_now c ts (object_at (catch_up_timers s ts tick) o) ≡ over_now c ts (object_at s o)
over-caught c ts s tick o = caught-same (over_now c ts) (over_timer c ts) s ts tick o

-- ---- what a pseudo-handle names has no count
pub over-pseudo : (c : Option ℕ) (ts : List th.Thread) (k : Kernel) (h : ℕ) → pseudo h ≡ true → KeptOk (resolved k h).store → over_now c ts (object_at (resolved k h).store (resolved k h).object.0) ≡ false
over-pseudo c ts k h e ok = pseudo-object (λ x. over_now c ts x ≡ false) (over_none c ts (Free 0) refl) (λ x n. over_none c ts x (near_fits x (near-kept x n))) k h e ok

-- ---- what the wait finds; s is the store then
module _ (b : List ℕ) (s : ObjectStore) where
  abbrev q : Kernel
  q = with_objects (dec_block b) s

  abbrev found : Bool → ℕ
  found v = found_of s.full ((s.overflow or v) or out_of_handles? (dec_block b))

  found_none : found false ≡ found_of s.full (s.overflow or out_of_handles? (dec_block b))
  found_none = ap (λ (v : Bool). found_of s.full (v or out_of_handles? (dec_block b))) (or-end s.overflow)

  same-found : finding q ≡ found false
  same-found = parts-finding b (dec_block b).threads s ∙ sym found_none

  taken-found : (o c : ℕ) → finding (with_objects q (acquire s o c)) ≡ found (true and acquire_over (object_at s o))
  unfolding acquire content ◌and◌
  taken-found o c = parts-finding b (dec_block b).threads (acquire s o c)

  taken_if : (t : Bool) (o c : ℕ) (w : Served) → finding w.kernel ≡ found false → finding (pick t (done (with_objects q (acquire s o c))) w).kernel ≡ found (t and acquire_over (object_at s o))
  unfolding ◌and◌
  taken_if true o c w e = taken-found o c
  taken_if false o c w e = e

  as_found : (t : Option ℕ) → (dec_block b).current_thread ≡ t → (o nanos tick : ℕ) → finding (wait1_as t q o nanos tick).kernel ≡ found (over_now t (dec_block b).threads (object_at s o))
  as_found None e o nanos tick = same-found
  as_found (Some c) e o nanos tick =
      taken_if (is_signaled (dec_block b).threads (object_at s o) c) o c (wait_unless q c (o ∷ []) false nanos tick (Some WaitSynchronization1))
      (pick-finding (eqb nanos 0) (found false) (answers 17 q) (wait_on q c (o ∷ []) false nanos tick (Some WaitSynchronization1)) same-found
      (begun-finding b s c (padded wait_list (o ∷ [])) 1 false nanos tick (Some WaitSynchronization1) e ∙ sym found_none))

  pub wait1_finding : (o : ℕ) (r : Registers) (tick : ℕ) → finding (wait1_opened q o r tick).kernel ≡ found (over_now (dec_block b).current_thread (dec_block b).threads (object_at s o))
  wait1_finding o r tick = go (eqb o 0) refl
    where
      go : (t : Bool) → eqb o 0 ≡ t
          → finding (pick t (answers 16 q) (wait1_as (dec_block b).current_thread q o (pair r.r2 r.r3) tick)).kernel ≡ found (over_now (dec_block b).current_thread (dec_block b).threads (object_at s o))
      go true e = same-found ∙ ap found (sym (over_none (dec_block b).current_thread (dec_block b).threads (object_at s o) (near_fits (object_at s o) (near_none s o (eqb-true o 0 e)))))
      go false e = as_found (dec_block b).current_thread refl o (pair r.r2 r.r3) tick
