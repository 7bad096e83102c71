-- A signal at an address leaves a sound state: records go back to the free chain, and the threads that wake had no list.
use Rattle.std.specs.Prelude.{◌≡◌, true, false, eqb, length, set}
use Rattle.std.proofs.Math.Path.{refl, ap, sym, subst}
use Rattle.std.proofs.Common.{◌∙◌, inl, inr, arith, length-append, eq-eqb, ne_eqb}
use Rattle.std.proofs.Math.Bool.{Bool}
use mathlib.Core.List.{List, [], ◌∷◌, ◌++◌, append_assoc}
use Prim.Native.Nat.{ℕ, zero, suc, ◌+◌, ◌≤◌, ◌<◌}
use Rattle.std.proofs.Math.Seq.{get_or-append_seam, set-append_seam}
use Rattle.laws.specs.Logic.{pick, ◌or◌, and-true, pick_yes, pick_no, false-true}
use Rattle.laws.specs.Count.{ind-same, ind-eq, count}
use Rattle.types.specs.declared.thread.ThreadStatus.{ThreadStatus}
use Rattle.types.specs.declared.thread.ThreadStatus.TheVariants.{Dead, Running, Ready, Sleeping, WaitSync, WaitArbiter, Dormant}
use Rattle.types.specs.declared.thread.Thread.{Thread}
use Rattle.types.specs.declared.object.Waiter.{Waiter}
use Rattle.types.specs.declared.object.ObjectStore.{ObjectStore}
use Rattle.types.specs.declared.kernel.Kernel.{Kernel}
use Rattle.types.specs.Thread.{is_dead}
use Rattle.sound.specs.View.{ids, no_thread, thread_at}
use Rattle.sound.specs.Threads.{Zeros, Only}
use Rattle.sound.specs.Objects.{names, Live, ContentOk}
use Rattle.sound.specs.Records.{chain_of}
use Rattle.sound.specs.Sound.{zeros_count}
use Rattle.object.specs.declared.waiters.Links.{Links}
use Rattle.object.specs.Waiters.{waiter_at, link, unlink, relinked, retain}
use Rattle.thread.specs.Threads.{with_threads}
use Rattle.kernel.specs.NextEvent.{contains}
use Rattle.soundness.specs.Objects.{ObOk}
use Rattle.soundness.specs.Chains.{count-no-chain, once-free, chain-at}
use Rattle.soundness.specs.Records.{retain-ok, retain-chains}
use Rattle.soundness.specs.Each.{each-retain, content-head}
use Rattle.soundness.specs.Fits.{z4, z8, retain-fits, no-objects, none_fit}
use Rattle.soundness.specs.Whole.{Parts}
use Rattle.soundness.specs.Creates.{StoreOk, parts-store}
use Rattle.passing.specs.Alike.{store-parts}
use Rattle.passing.specs.Threads.{live-ok, live-widths, thread-parts}
use Rattle.passing.specs.Sleeps.{unlisted_zeros}
use Rattle.svc.specs.Arbiter.{waits_arbiter, wakes_at, stays_at, woken_by, to_wake, unlink_woken, woken_up, wake_all, woken_at, signal_address}
use Rattle.kernel.specs.Marks.{contains-end}

-- ---- the records that go, as `unlink` takes them out
unlink_as : (f g : ℕ → Bool) (ws : List Waiter) (free : ℕ) (xs : List ℕ) → ((x : ℕ) → 0 < count x xs → f x ≡ g x) → unlink f ws free xs ≡ unlink g ws free xs
unfolding unlink count
unlink_as f g ws free [] e = refl
unlink_as f g ws free (x ∷ xs) e = rw (e x (omega (arith, ind-same x)), unlink_as f g ws free xs (λ y z. e y (omega arith)))

module _ (ts : List Thread) (ws : List Waiter) (a value : ℕ) where
  -- whether the record y of the chain stays: the question of its place
  unfoldable stays : List ℕ → List ℕ → ℕ → Bool
  stays woken [] y = false
  stays woken (x ∷ xs) y = pick (eqb x y) (stays_at ts ws a value woken x) (stays (woken_by ts ws a value woken x) xs y)

  -- in a chain without repeated members
  unlink-woken : (free : ℕ) (xs woken : List ℕ) → ((i : ℕ) → count i xs ≤ 1) → unlink_woken ts ws a value woken free xs ≡ unlink (stays woken xs) ws free xs
  unfolding unlink_woken unlink stays count
  unlink-woken free [] woken h = refl
  unlink-woken free (x ∷ xs) woken h =
      let b : Bool = stays_at ts ws a value woken x in
      let f : ℕ → Bool = stays (woken_by ts ws a value woken x) xs in
      let g : ℕ → Bool = λ y. pick (eqb x y) b (f y) in
      ap (λ (u : Links). link b x u)
      (unlink-woken free xs (woken_by ts ws a value woken x) (λ i. omega (arith, h i))
      ∙ unlink_as f g ws free xs (λ y z. sym (pick_no (eqb x y) b (f y) (ne_eqb x y (λ e. omega (arith, h y, ind-eq x y e))))))
      ∙ ap (λ (q : Bool). link q x (unlink g ws free xs)) (sym (pick_yes (eqb x x) b (f x) (eq-eqb x x refl)))

-- a chain of a sound store
chain-once : (s : ObjectStore) (f : ℕ → ℕ) → ObOk s f → (o i : ℕ) → count i (chain_of s o) ≤ 1
chain-once s f h zero i = omega (arith, count-no-chain s i)
chain-once s f h (suc j) i = omega (arith, ap (count i) (chain-at s h.chained h.nw j), once-free s h.chained h.nw i j)

-- ---- the store
module _ (n : ℕ) (ts : List Thread) (f : ℕ → ℕ) where
  retain-store : (keep : ℕ → Bool) (s : ObjectStore) (o : ℕ) → 0 < o → o ≤ 128 → StoreOk n ts f s → StoreOk n ts f (retain keep s o)
  unfolding retain
  retain-store keep s o z l h = record {
    ob = retain-ok keep s o f z l h.ob;
    contents = each-retain (ContentOk n ts) (content-head n ts) keep s o h.contents;
    chains = retain-chains keep s o f z l h.ob n h.chains;
    fits = retain-fits s h.fits keep o;
    full = h.full;
    overflow = h.overflow;
  }

  woken-store : (s : ObjectStore) (us : List Thread) (o a value : ℕ) → 0 < o → o ≤ 128 → StoreOk n ts f s
      → StoreOk n ts f (relinked s o (unlink_woken us s.waiters a value [] s.free_waiter (chain_of s o)))
  unfolding retain
  woken-store s us o a value z l h =
      subst (StoreOk n ts f) (sym (ap (relinked s o) (unlink-woken us s.waiters a value s.free_waiter (chain_of s o) [] (chain-once s f h.ob o))))
      (retain-store (stays us s.waiters a value [] (chain_of s o)) s o z l h)

-- ---- a thread that is parked at an address
waits-live : (s : ThreadStatus) → waits_arbiter s ≡ true → is_dead s ≡ false
waits-live Dead e = sym e
waits-live Running e = refl
waits-live Ready e = refl
waits-live Sleeping e = refl
waits-live WaitSync e = refl
waits-live WaitArbiter e = refl
waits-live Dormant e = refl

-- has no list
waits-none : (s : ThreadStatus) (n : ℕ) → waits_arbiter s ≡ true → Only s n → n ≡ 0
waits-none Dead n e o = o
waits-none Running n e o = o
waits-none Ready n e o = o
waits-none Sleeping n e o = o
waits-none WaitSync n e o = false-true e
waits-none WaitArbiter n e o = o
waits-none Dormant n e o = o

module _ (k : Kernel) (p : Parts k) (i : ℕ) (w : waits_arbiter (thread_at k.threads i).status ≡ true) where
  woken_up-parts : Parts (with_threads k (set k.threads i (woken_up (thread_at k.threads i))) k.objects)
  woken_up-parts =
      let old : Thread = thread_at k.threads i in
      let live : Live k.threads i = waits-live old.status w in
      let u = live-ok k p i live in
      let d = live-widths k p i live in
      let v : Thread = woken_up old in
      let z : Zeros (ids v.wait_objects) = no-objects in
      thread-parts k p i live v
      (record {
        ok = record { priority = u.priority; run = tt; list = z; only = refl };
        live = refl;
        tls = refl;
        widths = record { own = d.own; wait = record { count = z4; address = z4; wakeup = z8; ids = none_fit; size = refl }; index = z4; since = d.since };
      })
      (λ o q. zeros_count o (ids v.wait_objects) q z ∙ sym (zeros_count o (ids old.wait_objects) q (unlisted_zeros k p i live (waits-none old.status old.wait_count w u.only))))

-- ---- the threads woken were parked
abbrev AllWait : List Thread → List ℕ → Type 0
AllWait ts woken = (i : ℕ) → contains woken i ≡ true → waits_arbiter (thread_at ts i).status ≡ true

module _ (ts : List Thread) (ws : List Waiter) (a value : ℕ) where
  wakes-waits : (woken : List ℕ) (x : ℕ) → wakes_at ts ws a value woken x ≡ true → waits_arbiter (thread_at ts (waiter_at ws x).thread).status ≡ true
  wakes-waits woken x e = (and-true _ _ (and-true _ _ (and-true _ _ (and-true _ _ e).1).0).0).0

  woken-by : (woken : List ℕ) (x : ℕ) → AllWait ts woken → (b : Bool) → wakes_at ts ws a value woken x ≡ b → AllWait ts (pick b (woken ++ ((waiter_at ws x).thread ∷ [])) woken)
  woken-by woken x h true e i c =
      elim (contains-end woken (waiter_at ws x).thread i c) [
        | inl q ↦ h i q
        | inr q ↦ subst (λ (t : ℕ). waits_arbiter (thread_at ts t).status ≡ true) q (wakes-waits woken x e)
      ]
  woken-by woken x h false e i c = h i c

  to_wake-waits : (xs woken : List ℕ) → AllWait ts woken → AllWait ts (to_wake ts ws a value woken xs)
  unfolding to_wake
  to_wake-waits [] woken h = h
  to_wake-waits (x ∷ xs) woken h = to_wake-waits xs (woken_by ts ws a value woken x) (woken-by woken x h (wakes_at ts ws a value woken x) refl)

-- ---- all of them wake: the places before j are done
module _ (k : Kernel) (woken : List ℕ) where
  abbrev With : List Thread → Type 0
  With ts = Parts (with_threads k ts k.objects)

  wake-one : (us : List Thread) (t : Thread) (ts : List Thread) → (contains woken (length us) ≡ true → waits_arbiter t.status ≡ true) → With (us ++ (t ∷ ts))
      → (b : Bool) → contains woken (length us) ≡ b → With (us ++ (pick b (woken_up t) t ∷ ts))
  wake-one us t ts h p true e =
      let at : thread_at (us ++ (t ∷ ts)) (length us) ≡ t = get_or-append_seam us t ts no_thread in
      subst With (ap (λ (x : Thread). set (us ++ (t ∷ ts)) (length us) (woken_up x)) at ∙ set-append_seam us t ts (woken_up t))
      (woken_up-parts (with_threads k (us ++ (t ∷ ts)) k.objects) p (length us) (ap (λ (x : Thread). waits_arbiter x.status) at ∙ h e))
  wake-one us t ts h p false e = p

  wake-from : (j : ℕ) (us ts : List Thread) → length us ≡ j → ((i : ℕ) → contains woken (j + i) ≡ true → waits_arbiter (thread_at ts i).status ≡ true) → With (us ++ ts)
      → With (us ++ wake_all woken j ts)
  unfolding wake_all
  wake-from j us [] e h p = p
  wake-from j us (t ∷ ts) e h p =
      let x : Thread = pick (contains woken j) (woken_up t) t in
      let q : With (us ++ (pick (contains woken (length us)) (woken_up t) t ∷ ts)) =
      wake-one us t ts (λ c. h 0 (subst (λ (i : ℕ). contains woken i ≡ true) (omega arith) c)) p (contains woken (length us)) refl in
      subst With (append_assoc us (x ∷ []) (wake_all woken (suc j) ts))
      (wake-from (suc j) (us ++ (x ∷ [])) ts (length-append us (x ∷ []) ∙ omega arith) (λ i c. h (suc i) (subst (λ (m : ℕ). contains woken m ≡ true) (omega arith) c))
      (subst With (sym (append_assoc us (x ∷ []) ts)) (subst (λ (m : ℕ). With (us ++ (pick (contains woken m) (woken_up t) t ∷ ts))) e q)))

-- ---- the signal
none-wait : (ts : List Thread) → AllWait ts []
unfolding contains
none-wait ts i c = false-true c

pub signal_address-parts : (k : Kernel) (o a value : ℕ) → 0 < o → o ≤ 128 → Parts k → Parts (signal_address k o a value)
signal_address-parts k o a value z l p =
    let s : ObjectStore = relinked k.objects o (unlink_woken k.threads k.objects.waiters a value [] k.objects.free_waiter (chain_of k.objects o)) in
    let q : Parts (with_threads k k.threads s) =
    store-parts k s (woken-store k.thread_count k.threads (names k.handles k.threads) k.objects k.threads o a value z l (parts-store k p)) p in
    wake-from (with_threads k k.threads s) (woken_at k.threads k.objects o a value) 0 [] k.threads refl
    (λ i c. to_wake-waits k.threads k.objects.waiters a value (chain_of k.objects o) [] (none-wait k.threads) i (subst (λ (m : ℕ). contains (woken_at k.threads k.objects o a value) m ≡ true) (omega arith) c)) q
