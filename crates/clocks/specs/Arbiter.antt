-- `create_address_arbiter` and `arbitrate_address` leave a timer's clock.
use Rattle.units.specs.declared.Ticks.{Ticks}
use Rattle.std.specs.Prelude.{◌≡◌, refl, [], ℕ, eqb, ltb, Option, Some, None}
use Rattle.std.proofs.Common.{◌∙◌}
use Rattle.types.specs.declared.sync.ArbitrationType.{ArbitrationType}
use Rattle.types.specs.declared.sync.ArbitrationType.TheVariants.{Signal, WaitIfLessThan, DecrementAndWaitIfLessThan, WaitIfLessThanWithTimeout, DecrementAndWaitIfLessThanWithTimeout}
use Rattle.types.specs.declared.object.KObject.TheVariants.{AddressArbiter}
use Rattle.types.specs.declared.object.ObjectStore.{ObjectStore}
use Rattle.types.specs.declared.kernel.Kernel.{Kernel}
use Rattle.types.specs.Sync.{arbitration_from_raw}
use Rattle.sound.specs.Records.{chain_of}
use Rattle.soundness.specs.Slots.{pick-both}
use Rattle.svc.specs.declared.Registers.{Registers}
use Rattle.svc.specs.declared.Served.{Served}
use Rattle.svc.specs.Call.{with_objects, pair, resolved}
use Rattle.svc.specs.Sync.{biased}
use Rattle.svc.specs.Arbiter.{create_address_arbiter, unlink_woken, park_time, park_as, wait_below, arbitrate_as, arbitrate_by, arbitrate_address}
use Rattle.timing.specs.Clock.{clock_at, relinked-clock, push-clock}
use Rattle.timing.specs.Keeps.{FirstFree}
use Rattle.clocks.specs.Resolves.{Used, create_object-clock, resolved-clock}

-- ---- the object q of the state k is the arbiter
park-as : (c : Option ℕ) (k : Kernel) (q a : ℕ) (time : Option Ticks) (tick o : ℕ)
    → clock_at (park_as c k q a time tick).objects o ≡ clock_at k.objects o
park-as None k q a time tick o = refl
park-as (Some c) k q a time tick o = push-clock k.objects q c a o

below-clock : (kind : ArbitrationType) (k : Kernel) (q a value word nanos tick o : ℕ) → clock_at (wait_below kind k q a value word nanos tick).kernel.objects o ≡ clock_at k.objects o
below-clock kind k q a value word nanos tick o =
    pick-both (λ (v : Served). clock_at v.kernel.objects o ≡ clock_at k.objects o) (ltb (biased word) (biased value)) _ _
    (park-as k.current_thread k q a (park_time kind nanos) tick o) refl

arbitrate-as : (kind : ArbitrationType) (k : Kernel) (q a value word nanos tick o : ℕ) → clock_at (arbitrate_as kind k q a value word nanos tick).kernel.objects o ≡ clock_at k.objects o
arbitrate-as Signal k q a value word nanos tick o =
    relinked-clock k.objects q (unlink_woken k.threads k.objects.waiters a value [] k.objects.free_waiter (chain_of k.objects q)) o
arbitrate-as WaitIfLessThan k q a value word nanos tick o = below-clock WaitIfLessThan k q a value word nanos tick o
arbitrate-as DecrementAndWaitIfLessThan k q a value word nanos tick o = below-clock DecrementAndWaitIfLessThan k q a value word nanos tick o
arbitrate-as WaitIfLessThanWithTimeout k q a value word nanos tick o = below-clock WaitIfLessThanWithTimeout k q a value word nanos tick o
arbitrate-as DecrementAndWaitIfLessThanWithTimeout k q a value word nanos tick o = below-clock DecrementAndWaitIfLessThanWithTimeout k q a value word nanos tick o

module _ (k : Kernel) (f : FirstFree k.objects) (o : ℕ) (u : Used k.objects o) where
  pub create_address_arbiter-clock : clock_at (create_address_arbiter k).kernel.objects o ≡ clock_at k.objects o
  unfolding create_address_arbiter
  create_address_arbiter-clock = create_object-clock k f o u (AddressArbiter (record { waiters = 0 }))

  arbitrate-by : (kind : Option ArbitrationType) (r : Registers) (word tick : ℕ)
      → clock_at (arbitrate_by kind k r word tick).kernel.objects o ≡ clock_at k.objects o
  arbitrate-by None r word tick = refl
  arbitrate-by (Some kind) r word tick =
      let s : ObjectStore = (resolved k r.r0).store in
      let q : ℕ = (resolved k r.r0).object.0 in
      pick-both (λ (v : Served). clock_at v.kernel.objects o ≡ clock_at s o) (eqb q 0) _ _ refl
      (arbitrate-as kind (with_objects k s) q r.r1 r.r3 word (pair r.r4 r.r5) tick o) ∙ resolved-clock k f o u r.r0

  pub arbitrate_address-clock : (r : Registers) (word tick : ℕ) → clock_at (arbitrate_address k r word tick).kernel.objects o ≡ clock_at k.objects o
  unfolding arbitrate_address
  arbitrate_address-clock r word tick = arbitrate-by (arbitration_from_raw r.r2) r word tick
