-- A current thread with no list that begins to wait on live objects leaves a sound state: each object of the list gains a name.
use Rattle.units.specs.declared.Ticks.{Ticks}
use Rattle.std.specs.Prelude.{◌≡◌, Bool, List, [], ◌∷◌, ℕ, zero, suc, ◌^◌, ◌≤◌, ◌<◌, length, set, take, Option, Some}
use Rattle.std.specs.Prelude.{None}
use Rattle.std.proofs.Math.Path.{refl}
use Rattle.std.proofs.Common.{◌∙◌, arith}
use Rattle.std.proofs.lemmas.List.{length-map}
use Rattle.laws.specs.All.{All}
use Rattle.laws.specs.Count.{count}
use Rattle.units.specs.declared.ObjectId.{ObjectId}
use Rattle.types.specs.declared.thread.Thread.{Thread}
use Rattle.types.specs.declared.object.ObjectStore.{ObjectStore}
use Rattle.types.specs.declared.kernel.Kernel.{Kernel}
use Rattle.types.specs.Thread.{wait_list, tick_value}
use Rattle.block.proofs.Fits.{IdFits}
use Rattle.sound.specs.View.{ids, object_at, thread_at}
use Rattle.sound.specs.Threads.{Places}
use Rattle.sound.specs.Objects.{names, Live, ContentOk}
use Rattle.sound.specs.Sound.{Sound}
use Rattle.object.specs.Store.{is_free, add_ref, add_refs}
use Rattle.soundness.specs.Slots.{pick-both}
use Rattle.soundness.specs.Objects.{Known}
use Rattle.soundness.specs.Names.{count-length}
use Rattle.soundness.specs.Waits.{begin-wait-ok}
use Rattle.soundness.specs.Same.{add_refs-same}
use Rattle.soundness.specs.Records.{chains-same}
use Rattle.soundness.specs.Each.{each-add_refs}
use Rattle.soundness.specs.Fits.{z4, z8, add_refs-fits}
use Rattle.soundness.specs.Fine.{add_refs-full}
use Rattle.soundness.specs.Threads.{content-more}
use Rattle.soundness.specs.Whole.{Parts, sound-parts, parts-sound, few-names}
use Rattle.soundness.specs.Creates.{StoreOk}
use Rattle.pass.specs.Waits.{wake_tick, waiting, begin_wait_as, begin_wait}
use Rattle.passing.specs.Timers.{saturating_fits}
use Rattle.passing.specs.Signal.{live_in}
use Rattle.passing.specs.Threads.{live-ok, live-widths, Turned, place-parts, live-after}
use Rattle.passing.specs.Fates.{take-length}
use Rattle.passing.specs.Switch.{current-live}
use Rattle.passing.specs.Sleeps.{Unlisted, unlisted_zeros}

-- ---- the list that a wait may begin with
-- n objects of the state, then zeros, in 12 places
pub record Waitable (k : Kernel) (l : List ObjectId) (n : ℕ) : Type 0 where
  pub places : Places n (ids l)
  pub known : Known k.objects (names k.handles k.threads) (take n (ids l))
  pub size : length l ≡ wait_list

-- ---- widths
places_fit : (n : ℕ) (l : List ObjectId) → Places n (ids l) → All IdFits l
places_fit zero [] z = tt
places_fit zero (x ∷ l) z = (omega (arith, z.0), places_fit zero l z.1)
places_fit (suc n) [] z = tt
places_fit (suc n) (x ∷ l) z = (omega (arith, z.1.0), places_fit n l z.1.1)

places_in : (n : ℕ) (l : List ℕ) → Places n l → n ≤ length l
places_in zero l z = omega arith
places_in (suc n) [] z = absurd z
places_in (suc n) (x ∷ l) z = omega (arith, places_in n l z.1.1)

pub wake-fits : (timeout : Option Ticks) (tick : ℕ) → tick_value (wake_tick timeout tick) < 256 ^ 8
wake-fits None tick = z8
wake-fits (Some d) tick = saturating_fits tick d.0

-- ---- the finding is left alone
pub add_ref-overflow : (s : ObjectStore) (o : ℕ) → (add_ref s o).overflow ≡ s.overflow
unfolding add_ref
add_ref-overflow s o = pick-both (λ (y : ObjectStore). y.overflow ≡ s.overflow) (is_free (object_at s o)) s _ refl refl

pub add_refs-overflow : (os : List ℕ) (s : ObjectStore) → (add_refs s os).overflow ≡ s.overflow
unfolding add_refs
add_refs-overflow [] s = refl
add_refs-overflow (o ∷ os) s = add_refs-overflow os (add_ref s o) ∙ add_ref-overflow s o

-- ---- `begin_wait`
module _ (k : Kernel) (p : Parts k) (l : List ObjectId) (n : ℕ) (q : Waitable k l n) (all : Bool)
    (timeout : Option Ticks) (tick : ℕ) where
  few : n ≤ wait_list
  few = omega (arith, places_in n (ids l) q.places, length-map l (λ (o : ObjectId). o.0), q.size)

  module _ (c : ℕ) (live : Live k.threads c) (none : Unlisted k.threads (Some c)) where
    abbrev waiter : Thread
    waiter = waiting (thread_at k.threads c) l n all (wake_tick timeout tick)

    turned : Turned k.current_thread c (thread_at k.threads c) waiter
    turned =
        let u = live-ok k p c live in
        let w = live-widths k p c live in
        record {
          ok = record { priority = u.priority; run = tt; list = q.places; only = tt };
          live = refl;
          tls = refl;
          widths = record { own = w.own; wait = record { count = omega (arith, few); address = w.wait.address; wakeup = wake-fits timeout tick; ids = places_fit n l q.places; size = q.size }; index = z4; since = w.since };
        }

    store : StoreOk k.thread_count (set k.threads c waiter) (names k.handles (set k.threads c waiter)) (add_refs k.objects (take n (ids l)))
    store =
        let os : List ℕ = take n (ids l) in
        let m : ℕ = k.thread_count in
        let ts : List Thread = k.threads in
        let ts' : List Thread = set ts c waiter in
        record {
          ob = begin-wait-ok k.handles ts c waiter (live_in ts c live) k.objects (unlisted_zeros k p c live none) q.places q.known
              (λ o z. omega (arith, few-names k p o, count-length o os, take-length n (ids l), length-map l (λ (x : ObjectId). x.0), q.size)) p.ob;
          contents = each-add_refs (ContentOk m ts') os k.objects (λ o. content-more m m ts ts' (omega arith) (live-after k p c live waiter turned) (object_at k.objects o) (p.contents o));
          chains = chains-same m k.objects (add_refs k.objects os) (add_refs-same os k.objects) p.chains;
          fits = add_refs-fits os k.objects p.store_fits;
          full = add_refs-full os k.objects ∙ p.clean.2;
          overflow = add_refs-overflow os k.objects ∙ p.clean.3;
        }

  begin_as : (c : Option ℕ) → k.current_thread ≡ c → Unlisted k.threads c
      → Parts (begin_wait_as c k l n all timeout tick)
  begin_as None e u = p
  begin_as (Some c) e u = let live = current-live k p c e in place-parts k p c live (waiter c live u) (turned c live u)
      (add_refs k.objects (take n (ids l))) (store c live u)

  pub begin_wait-parts : Unlisted k.threads k.current_thread → Parts (begin_wait k l n all timeout tick)
  unfolding begin_wait
  begin_wait-parts u = begin_as k.current_thread refl u

pub begin_wait-sound : (k : Kernel) (l : List ObjectId) (n : ℕ) (all : Bool) (timeout : Option Ticks) (tick : ℕ)
    → Waitable k l n → Unlisted k.threads k.current_thread → Sound k → Sound (begin_wait k l n all timeout tick)
begin_wait-sound k l n all timeout tick q u s = parts-sound (begin_wait k l n all timeout tick) (begin_wait-parts k (sound-parts k s) l n q all timeout tick u)
