-- The current thread parks at an address: a record more, and a thread without a list in another status.
use Rattle.units.specs.declared.Ticks.{Ticks}
use Rattle.std.specs.Prelude.{◌≡◌, refl, Bool, true, false, List, ℕ, ◌<◌, eqb, ltb, set, Option, Some, None}
use Rattle.std.proofs.Common.{◌∙◌, arith}
use Rattle.laws.specs.Logic.{pick, ◌and◌, ◌or◌}
use Rattle.types.specs.declared.thread.Thread.{Thread}
use Rattle.types.specs.declared.sync.ArbitrationType.{ArbitrationType}
use Rattle.types.specs.declared.object.ObjectStore.{ObjectStore}
use Rattle.types.specs.declared.kernel.Kernel.{Kernel}
use Rattle.sound.specs.View.{ids, waiter_threads, waiter_addresses, object_at, thread_at}
use Rattle.sound.specs.Threads.{Zeros}
use Rattle.sound.specs.Objects.{names, Live, ContentOk}
use Rattle.sound.specs.Records.{chain_of, has?}
use Rattle.object.specs.Waiters.{is_arbiter, pushed, push}
use Rattle.soundness.specs.Slots.{pick-both}
use Rattle.soundness.specs.Records.{push_ok, push-full, push-chains}
use Rattle.soundness.specs.Each.{each-push, content-head}
use Rattle.soundness.specs.Fits.{Word, z4, push-fits, no-objects, none_fit}
use Rattle.soundness.specs.Threads.{names_same}
use Rattle.soundness.specs.Whole.{Parts}
use Rattle.soundness.specs.Creates.{StoreOk, parts-store, store-more}
use Rattle.pass.specs.Signal.{one_less}
use Rattle.pass.specs.Waits.{wake_tick}
use Rattle.passing.specs.Begins.{wake-fits}
use Rattle.passing.specs.Signal.{live_in, live-word}
use Rattle.passing.specs.Threads.{live-used, live-ok, live-widths, Turned, place-parts, live-after}
use Rattle.passing.specs.Switch.{current-live}
use Rattle.passing.specs.Sleeps.{Unlisted, unlisted_zeros}
use Rattle.svc.specs.declared.Served.{Served}
use Rattle.svc.specs.Call.{done, with_over}
use Rattle.svc.specs.Sync.{biased}
use Rattle.svc.specs.Arbiter.{decrements, park_time, parked, park_as, park, wait_below}
use Rattle.calling.specs.Sync.{over-parts}

-- ---- one record more
push-overflow : (s : ObjectStore) (o t a : ℕ) → (push s o t a).overflow ≡ s.overflow
unfolding push
push-overflow s o t a =
    pick-both (λ (x : ObjectStore). x.overflow ≡ s.overflow) (is_arbiter (object_at s o)) _ s
    (pick-both (λ (x : ObjectStore). x.overflow ≡ s.overflow) (has? (waiter_threads s.waiters) (waiter_addresses s.waiters) t a (chain_of s o)) s (pushed s o t a) refl refl) refl

push-store : (n : ℕ) (ts : List Thread) (f : ℕ → ℕ) (s : ObjectStore) (o t a : ℕ) → t < n → Word t → Word a → (push s o t a).full ≡ false → StoreOk n ts f s → StoreOk n ts f (push s o t a)
push-store n ts f s o t a l wt wa e h = record {
  ob = push_ok s o t a f (λ q. h.ob) e;
  contents = each-push (ContentOk n ts) (content-head n ts) s o t a h.contents;
  chains = push-chains n s o t a f l (λ q. h.ob) e h.chains;
  fits = push-fits s h.fits o t a wt wa;
  full = e;
  overflow = push-overflow s o t a ∙ h.overflow;
}

-- ---- the thread parks
module _ (k : Kernel) (p : Parts k) (o a : ℕ) (small : Word a) (time : Option Ticks) (tick : ℕ) where
  module _ (c : ℕ) (live : Live k.threads c) (none : Unlisted k.threads (Some c))
      (e : (push k.objects o c a).full ≡ false) where
    abbrev waiter : Thread
    waiter = parked (thread_at k.threads c) a (wake_tick time tick)

    no-list : Zeros (ids waiter.wait_objects)
    no-list = no-objects

    turned : Turned k.current_thread c (thread_at k.threads c) waiter
    turned =
        let u = live-ok k p c live in
        let w = live-widths k p c live in
        record {
          ok = record { priority = u.priority; run = tt; list = no-list; only = refl };
          live = refl;
          tls = refl;
          widths = record { own = w.own; wait = record { count = z4; address = small; wakeup = wake-fits time tick; ids = none_fit; size = refl }; index = w.index; since = w.since };
        }

    parked-parts : Parts (park_as (Some c) k o a time tick)
    parked-parts =
        let n : ℕ = k.thread_count in
        let ts : List Thread = k.threads in
        let f : ℕ → ℕ = names k.handles ts in
        place-parts k p c live waiter turned (push k.objects o c a)
        (store-more n n ts (set ts c waiter) f (names k.handles (set ts c waiter)) (push k.objects o c a) (omega arith) (live-after k p c live waiter turned)
        (names_same k.handles ts c waiter (live_in ts c live) (unlisted_zeros k p c live none) no-list)
        (push-store n ts f k.objects o c a (live-used k p c live) (live-word k p c live) small e (parts-store k p)))

  park-as : (c : Option ℕ) → k.current_thread ≡ c → Unlisted k.threads c
      → (park_as c k o a time tick).objects.full ≡ false → Parts (park_as c k o a time tick)
  park-as None q u e = p
  park-as (Some c) q u e = parked-parts c (current-live k p c q) u e

  pub park-parts : Unlisted k.threads k.current_thread → (park k o a time tick).objects.full ≡ false → Parts (park k o a time tick)
  park-parts u e = park-as k.current_thread refl u e

-- the finding sticks
park-full_as : (c : Option ℕ) (k : Kernel) (o a : ℕ) (time : Option Ticks) (tick : ℕ)
    → (park_as c k o a time tick).objects.full ≡ false → k.objects.full ≡ false
park-full_as None k o a time tick e = e
park-full_as (Some c) k o a time tick e = push-full k.objects o c a e

pub park-full : (k : Kernel) (o a : ℕ) (time : Option Ticks) (tick : ℕ) → (park k o a time tick).objects.full ≡ false
    → k.objects.full ≡ false
park-full k o a time tick e = park-full_as k.current_thread k o a time tick e

-- ---- kinds 1 to 4
module _ (kind : ArbitrationType) (k : Kernel) (o a value word nanos tick : ℕ) where
  abbrev below : Bool → Served
  below b =
      pick b
      (record {
        kernel = with_over (park k o a (park_time kind nanos) tick) (k.overflow or (decrements kind and eqb word 2147483648));
        answer = 0;
        r0 = Some 0;
        r1 = None;
        word = pick (decrements kind) (Some (one_less word)) None;
      })
      (done k)

  below_parts : (b : Bool) → Word a → Unlisted k.threads k.current_thread → Parts k → (below b).kernel.overflow ≡ false → (below b).kernel.objects.full ≡ false → Parts (below b).kernel
  below_parts true w u p v e = over-parts (park k o a (park_time kind nanos) tick) (k.overflow or (decrements kind and eqb word 2147483648)) v (park-parts k p o a w (park_time kind nanos) tick u e)
  below_parts false w u p v e = p

  below-full : (b : Bool) → (below b).kernel.objects.full ≡ false → k.objects.full ≡ false
  below-full true e = park-full k o a (park_time kind nanos) tick e
  below-full false e = e

  below-answer : (b : Bool) → (below b).answer ≡ 0
  below-answer true = refl
  below-answer false = refl

  pub wait_below-parts : Word a → Unlisted k.threads k.current_thread → Parts k → (wait_below kind k o a value word nanos tick).kernel.overflow ≡ false
      → (wait_below kind k o a value word nanos tick).kernel.objects.full ≡ false → Parts (wait_below kind k o a value word nanos tick).kernel
  wait_below-parts w u p v e = below_parts (ltb (biased word) (biased value)) w u p v e

  pub wait_below-full : (wait_below kind k o a value word nanos tick).kernel.objects.full ≡ false → k.objects.full ≡ false
  wait_below-full e = below-full (ltb (biased word) (biased value)) e

  pub wait_below-answer : (wait_below kind k o a value word nanos tick).answer ≡ 0
  wait_below-answer = below-answer (ltb (biased word) (biased value))
