-- A wait that ends, and a thread that ends, leave a sound state.
use Rattle.std.specs.Prelude.{◌≡◌, Bool, true, false, ◌≢◌, set, Option, Some, None}
use Rattle.std.proofs.Math.Path.{refl, ap}
use Rattle.std.proofs.Common.{sym, subst, ◌∙◌, inl, inr, arith, eqb-true}
use mathlib.Core.List.{List, [], ◌∷◌, map}
use Prim.Native.Nat.{ℕ, zero, suc, ◌+◌, ◌<◌}
use Rattle.std.proofs.Math.ListN.{length, take, length-set}
use Rattle.std.proofs.lemmas.Bool.{eqb-false}
use Rattle.laws.specs.Logic.{pick}
use Rattle.laws.specs.All.{All, all_set}
use Rattle.laws.specs.Count.{count, ind-cases}
use Rattle.types.specs.declared.thread.ThreadStatus.{ThreadStatus}
use Rattle.types.specs.declared.thread.ThreadStatus.TheVariants.{Dead, Running, Ready, Sleeping, WaitSync, WaitArbiter, Dormant}
use Rattle.types.specs.declared.thread.Thread as th
use Rattle.types.specs.declared.sync.Mutex as mu
use Rattle.types.specs.declared.object.KObject.{KObject}
use Rattle.types.specs.declared.object.KObject.TheVariants.{Free, Thread, Event, Mutex, Semaphore, Timer, AddressArbiter, Process, ResourceLimit}
use Rattle.types.specs.declared.object.Slot.{Slot}
use Rattle.types.specs.declared.kernel.Kernel.{Kernel}
use Rattle.types.specs.Thread.{is_dead, option_value}
use Rattle.block.proofs.Enums.{status-fits, result_fits, syscall_fits, option-flag-fits}
use Rattle.block.proofs.Fits.{ThreadFits}
use Rattle.sound.specs.View.{ids, slot_at, object_at, thread_at}
use Rattle.sound.specs.Threads.{Zeros, Places, Only, is_current, RunOk, ThreadOk, CurrentOk}
use Rattle.sound.specs.Objects.{names, Live, OwnerOk, ContentOk}
use Rattle.sound.specs.Sound.{Sound, zeros_count}
use Rattle.object.specs.Slots.{with_slots, with_object}
use Rattle.thread.specs.Thread.{clear_wait}
use Rattle.thread.specs.Threads.{end_wait, disowned, disown, ended, left_by, end_thread}
use Rattle.soundness.specs.Objects.{ObOk, ok_as, contents-ok, shape_of, releases-full, releases-overflow}
use Rattle.soundness.specs.Names.{places_count, places-pos}
use Rattle.soundness.specs.Waits.{names-set, same-wait-ok, end-wait-ok}
use Rattle.soundness.specs.Same.{contents-same}
use Rattle.soundness.specs.Records.{chains-same, releases-chains}
use Rattle.soundness.specs.Each.{each-releases, content-free}
use Rattle.soundness.specs.Fits.{Word, KeepsFit, z4, z8, slot_of, of-slot, all_slots, with_slots-fits, releases-fits, no-objects, none_fit}
use Rattle.soundness.specs.Tls.{tls-ended, tls-same}
use Rattle.soundness.specs.Threads.{thread-same, thread-other, threads-set, content-more, live-ended}
use Rattle.soundness.specs.Whole.{Parts, sound-parts, parts-sound}
use Rattle.soundness.specs.Ends.{killed}

-- ---- a thread after its wait
-- a list of none suits every status
pub only_none : (s : ThreadStatus) → Only s 0
only_none Dead = refl
only_none Running = refl
only_none Ready = refl
only_none Sleeping = refl
only_none WaitSync = tt
only_none WaitArbiter = refl
only_none Dormant = refl

no-list : (t : th.Thread) → Zeros (ids (clear_wait t).wait_objects)
no-list t = no-objects

clear_wait-fits : (t : th.Thread) → ThreadFits t → ThreadFits (clear_wait t)
clear_wait-fits t f =
    let a = f.0 in
    ((a.0, (a.1.0, (a.1.1.0, (a.1.1.1.0, (a.1.1.1.1.0, (a.1.1.1.1.1.0, (z4, (z4, (a.1.1.1.1.1.1.1.1.0, (z4, (z4, (z4, (a.1.1.1.1.1.1.1.1.1.1.1.1.0, (a.1.1.1.1.1.1.1.1.1.1.1.1.1.0, (a.1.1.1.1.1.1.1.1.1.1.1.1.1.1.0, (a.1.1.1.1.1.1.1.1.1.1.1.1.1.1.1.0, (z8, (a.1.1.1.1.1.1.1.1.1.1.1.1.1.1.1.1.1.0, tt)))))))))))))))))), none_fit, refl)

ended-fits : (t : th.Thread) → ThreadFits t → ThreadFits (ended t)
ended-fits t f =
    let a = f.0 in
    ((status-fits Dead, (a.1.0, (a.1.1.0, (a.1.1.1.0, (a.1.1.1.1.0, (a.1.1.1.1.1.0, (a.1.1.1.1.1.1.0, (a.1.1.1.1.1.1.1.0, (a.1.1.1.1.1.1.1.1.0, (a.1.1.1.1.1.1.1.1.1.0, (a.1.1.1.1.1.1.1.1.1.1.0, (a.1.1.1.1.1.1.1.1.1.1.1.0, (result_fits None, (z4, (syscall_fits None, (a.1.1.1.1.1.1.1.1.1.1.1.1.1.1.1.0, (a.1.1.1.1.1.1.1.1.1.1.1.1.1.1.1.1.0, (a.1.1.1.1.1.1.1.1.1.1.1.1.1.1.1.1.1.0, tt)))))))))))))))))), f.1, f.2)

pub fits-at : (ts : List th.Thread) (i : ℕ) → i < length ts → All ThreadFits ts → ThreadFits (thread_at ts i)
fits-at [] i l a = absurd (omega arith)
fits-at (x ∷ xs) zero l a = a.0
fits-at (x ∷ xs) (suc i) l a = fits-at xs i (omega arith) a.1

places-words : (n : ℕ) (l : List ℕ) → Places n l → All Word (take n l)
places-words zero l p = tt
places-words (suc n) [] p = absurd p
places-words (suc n) (x ∷ xs) p = (omega (arith, p.1.0), places-words n xs p.1.1)

pub live_same : (ts : List th.Thread) (i : ℕ) (v : th.Thread) → i < length ts → is_dead v.status ≡ is_dead (thread_at ts i).status → (t : ℕ) → Live ts t → Live (set ts i v) t
live_same ts i v l d t h =
    elim (ind-cases t i) [
      | inl e ↦ subst (λ (u : ℕ). Live (set ts i v) u) (sym e.0) (ap (λ (x : th.Thread). is_dead x.status) (thread-same ts i v l) ∙ d ∙ subst (λ (u : ℕ). Live ts u) e.0 h)
      | inr e ↦ ap (λ (x : th.Thread). is_dead x.status) (thread-other ts i t v e.0) ∙ h
    ]

-- ---- a wait ends
module _ (k : Kernel) (t : ℕ) (l : t < k.thread_count) (p : Parts k) where
  in_table : t < 32
  in_table = omega (arith, p.threads.many)

  in_list : t < length k.threads
  in_list = omega (arith, in_table, p.nt)

  used : ThreadOk k.current_thread t (thread_at k.threads t)
  used = (p.threads.each t in_table).used l

  paid : ObOk k.objects (λ i. count i (take (thread_at k.threads t).wait_count (ids (thread_at k.threads t).wait_objects)) + names k.handles (set k.threads t (clear_wait (thread_at k.threads t))) i)
  paid =
      ok_as _
      (λ j w. omega (
        arith,
        names-set k.handles k.threads t (clear_wait (thread_at k.threads t)) in_list j,
        places_count j (thread_at k.threads t).wait_count (ids (thread_at k.threads t).wait_objects) w used.list,
        zeros_count j (ids (clear_wait (thread_at k.threads t)).wait_objects) w (no-list (thread_at k.threads t)),
      )) p.ob

  pub end_wait-parts : Parts (end_wait k t)
  unfolding end_wait
  end_wait-parts =
      let ts : List th.Thread = k.threads in
      let old : th.Thread = thread_at ts t in
      let v : th.Thread = clear_wait old in
      let os : List ℕ = take old.wait_count (ids old.wait_objects) in
      let pos = places-pos old.wait_count (ids old.wait_objects) used.list in
      let n : ℕ = k.thread_count in
      let c : (Option ℕ) = k.current_thread in
      record {
        ob = end-wait-ok k.handles ts t v in_list k.objects used.list (no-list old) p.ob;
        contents = each-releases (ContentOk n (set ts t v)) (content-free n (set ts t v)) os k.objects
            (λ o. content-more n n ts (set ts t v) (omega arith) (live_same ts t v in_list refl) (object_at k.objects o) (p.contents o));
        chains = releases-chains n os k.objects (names k.handles (set ts t v)) pos paid p.chains;
        table = p.table;
        threads = threads-set n n c c ts t v p.nt in_table p.threads.many p.threads.current
            (record { used = λ q. record { priority = used.priority; run = used.run; list = no-list old; only = only_none old.status }; unused = λ q. absurd (omega arith) })
            (record { run = λ j e s r. r; used = λ j e q. q; unused = λ j e q. q }) p.threads;
        tls = tls-same ts k.next_tls_slot t v in_list refl refl p.tls;
        store_fits = releases-fits os k.objects (places-words old.wait_count (ids old.wait_objects) used.list) p.store_fits;
        table_fits = p.table_fits;
        nt = length-set ts t v ∙ p.nt;
        threads_fit = all_set ThreadFits ts t (clear_wait-fits old (fits-at ts t in_list p.threads_fit)) p.threads_fit;
        status = p.status;
        thread_count = p.thread_count;
        current = p.current;
        next_tls = p.next_tls;
        next_guest = p.next_guest;
        clean = (p.clean.0, p.clean.1, releases-full k.objects os ∙ p.clean.2, releases-overflow k.objects os ∙ p.clean.3, p.clean.4, p.clean.5);
      }

-- ---- mutexes are given back: kinds, chains and counts stay
disowned-shape : (t : ℕ) (x : KObject) → shape_of (disowned t x) ≡ shape_of x
disowned-shape t (Free n) = refl
disowned-shape t (Thread u) = refl
disowned-shape t (Event e) = refl
disowned-shape t (Mutex m) = refl
disowned-shape t (Semaphore s) = refl
disowned-shape t (Timer u) = refl
disowned-shape t (AddressArbiter a) = refl
disowned-shape t Process = refl
disowned-shape t ResourceLimit = refl

mutex_fits : (b : Bool) (m : mu.Mutex) → KeepsFit (Mutex m) → KeepsFit (Mutex (pick b (record { owner = None; lock_count = 0 }) m))
mutex_fits true m f = record { kind = f.kind; a = option-flag-fits {A = ℕ} None; b = z4; c = z4; x = z8; y = z8 }
mutex_fits false m f = f

disowned-fits : (t : ℕ) (x : KObject) → KeepsFit x → KeepsFit (disowned t x)
disowned-fits t (Free n) f = f
disowned-fits t (Thread u) f = f
disowned-fits t (Event e) f = f
disowned-fits t (Mutex m) f = mutex_fits (is_current m.owner t) m f
disowned-fits t (Semaphore s) f = f
disowned-fits t (Timer u) f = f
disowned-fits t (AddressArbiter a) f = f
disowned-fits t Process f = f
disowned-fits t ResourceLimit f = f

-- ---- who owns what, once thread t is another
module _ (n : ℕ) (ts : List th.Thread) (t : ℕ) (v : th.Thread) where
  owner-other : (w : Option ℕ) → is_current w t ≡ false → OwnerOk ts w → OwnerOk (set ts t v) w
  owner-other None e o = tt
  owner-other (Some u) e o = live-ended ts t v u (eqb-false u t e) o

  mutex_content : (b : Bool) (m : mu.Mutex) → is_current m.owner t ≡ b → OwnerOk ts m.owner
      → OwnerOk (set ts t v) (pick {A = mu.Mutex} b (record { owner = None; lock_count = 0 }) m).owner
  mutex_content true m e o = tt
  mutex_content false m e o = owner-other m.owner e o

  disowned-content : (x : KObject) → ContentOk n ts x → ContentOk n (set ts t v) (disowned t x)
  disowned-content (Free m) c = tt
  disowned-content (Thread u) c = c
  disowned-content (Event e) c = tt
  disowned-content (Mutex m) c = mutex_content (is_current m.owner t) m refl c
  disowned-content (Semaphore s) c = tt
  disowned-content (Timer u) c = tt
  disowned-content (AddressArbiter a) c = tt
  disowned-content Process c = tt
  disowned-content ResourceLimit c = tt

-- what holds of each object, changed with it
each-changed : (P Q : KObject → Type 0) (g : KObject → KObject) → Q (Free 0) → ((x : KObject) → P x → Q (g x)) → (l : List Slot) → ((o : ℕ) → P (slot_at l o).object)
    → (o : ℕ) → Q (slot_at (map (λ (x : Slot). with_object x (g x.object)) l) o).object
unfolding slot_at
each-changed P Q g z e l h zero = z
each-changed P Q g z e [] h (suc i) = z
each-changed P Q g z e (x ∷ l) h (suc zero) = e x.object (h 1)
each-changed P Q g z e (x ∷ l) h (suc (suc i)) = each-changed P Q g z e l (after l h) (suc i)
  where
    after : (l : List Slot) → ((o : ℕ) → P (slot_at (x ∷ l) o).object) → (o : ℕ) → P (slot_at l o).object
    after l h zero = h zero
    after l h (suc j) = h (suc (suc j))

-- ---- nobody runs in its place
left_if : (b : Bool) (c : Option ℕ) (t : ℕ) → is_current c t ≡ b → pick b None c ≢ Some t
left_if true c t e q = let z : ◌≡◌ {A = ℕ} 0 1 = cc in omega arith
left_if false c t e q = eqb-false t t (sym (ap (λ (x : Option ℕ). is_current x t) q) ∙ e) refl

left_not : (c : Option ℕ) (t : ℕ) → left_by c t ≢ Some t
left_not c t = left_if (is_current c t) c t refl

left_other : (b : Bool) (c : Option ℕ) (t j : ℕ) → is_current c t ≡ b → j ≢ t → c ≡ Some j → pick b None c ≡ Some j
left_other true c t j e n q = absurd (n (eqb-true j t (sym (ap (λ (x : Option ℕ). is_current x t) q) ∙ e)))
left_other false c t j e n q = q

left-none : (b : Bool) (c : Option ℕ) (j : ℕ) → c ≢ Some j → pick b None c ≢ Some j
left-none true c j n q = let z : ◌≡◌ {A = ℕ} 0 1 = cc in omega arith
left-none false c j n q = n q

left-run : (c : Option ℕ) (t j : ℕ) → j ≢ t → (s : ThreadStatus) → RunOk s c j → RunOk s (left_by c t) j
left-run c t j n Dead r = left-none (is_current c t) c j r
left-run c t j n Running r = left_other (is_current c t) c t j refl n r
left-run c t j n Ready r = tt
left-run c t j n Sleeping r = tt
left-run c t j n WaitSync r = tt
left-run c t j n WaitArbiter r = tt
left-run c t j n Dormant r = tt

left-current : (b : Bool) (c : Option ℕ) (n : ℕ) → CurrentOk c n → CurrentOk (pick b None c) n
left-current true c n h = tt
left-current false c n h = h

left_word : (b : Bool) (c : Option ℕ) → Word (option_value c) → Word (option_value (pick b None c))
left_word true c h = z4
left_word false c h = h

module _ (k : Kernel) (t : ℕ) (l : t < k.thread_count) (w : (thread_at k.threads t).wait_count ≡ 0) (p : Parts k) where
  killed-parts : Parts (killed k t)
  unfolding disown
  killed-parts =
      let ts : List th.Thread = k.threads in
      let old : th.Thread = thread_at ts t in
      let v : th.Thread = ended old in
      let n : ℕ = k.thread_count in
      let c : (Option ℕ) = k.current_thread in
      let m : t < 32 = in_table k t l p in
      let i : t < length ts = in_list k t l p in
      let u : ThreadOk c t old = used k t l p in
      let g : Slot → Slot = λ x. with_object x (disowned t x.object) in
      let e : (x : Slot) → shape_of (g x).object ≡ shape_of x.object = λ x. disowned-shape t x.object in
      record {
        ob = same-wait-ok k.handles ts t v i (with_slots k.objects (map g k.objects.slots)) refl (contents-ok g e (λ x. refl) k.objects (names k.handles ts) p.ob);
        contents = each-changed (ContentOk n ts) (ContentOk n (set ts t v)) (disowned t) tt (disowned-content n ts t v) k.objects.slots p.contents;
        chains = chains-same n k.objects (with_slots k.objects (map g k.objects.slots)) (contents-same g e k.objects) p.chains;
        table = p.table;
        threads = threads-set n n c (left_by c t) ts t v p.nt m p.threads.many (left-current (is_current c t) c n p.threads.current)
            (record { used = λ q. record { priority = u.priority; run = left_not c t; list = u.list; only = w }; unused = λ q. absurd (omega arith) })
            (record { run = λ j x s r. left-run c t j x s r; used = λ j x q. q; unused = λ j x q. q }) p.threads;
        tls = tls-ended ts k.next_tls_slot t v i refl p.tls;
        store_fits = with_slots-fits k.objects p.store_fits (map g k.objects.slots)
            (all_slots g (λ x f. slot_of (disowned t x.object) x.refcount x.pulsed (disowned-fits t x.object (of-slot x f)) f.1.0) k.objects.slots p.store_fits.slots);
        table_fits = p.table_fits;
        nt = length-set ts t v ∙ p.nt;
        threads_fit = all_set ThreadFits ts t (ended-fits old (fits-at ts t i p.threads_fit)) p.threads_fit;
        status = p.status;
        thread_count = p.thread_count;
        current = left_word (is_current c t) c p.current;
        next_tls = p.next_tls;
        next_guest = p.next_guest;
        clean = p.clean;
      }

-- ---- a thread ends
module _ (k : Kernel) (t : ℕ) (l : t < k.thread_count) (p : Parts k) where
  no-wait : (thread_at (end_wait k t).threads t).wait_count ≡ 0
  unfolding end_wait
  no-wait = ap (λ (x : th.Thread). x.wait_count) (thread-same k.threads t (clear_wait (thread_at k.threads t)) (in_list k t l p))

  count_same : (end_wait k t).thread_count ≡ k.thread_count
  unfolding end_wait
  count_same = refl

  pub end_thread-parts : Parts (end_thread k t)
  unfolding end_thread
  end_thread-parts = killed-parts (end_wait k t) t (omega (arith, count_same)) no-wait (end_wait-parts k t l p)

pub end_wait-sound : (k : Kernel) (t : ℕ) → t < k.thread_count → Sound k → Sound (end_wait k t)
end_wait-sound k t l s = parts-sound (end_wait k t) (end_wait-parts k t l (sound-parts k s))

pub end_thread-sound : (k : Kernel) (t : ℕ) → t < k.thread_count → Sound k → Sound (end_thread k t)
end_thread-sound k t l s = parts-sound (end_thread k t) (end_thread-parts k t l (sound-parts k s))
