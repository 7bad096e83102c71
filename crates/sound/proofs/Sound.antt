-- The test of a state tells that it is sound.
use Rattle.std.specs.Prelude.{◌≡◌, refl, List, [], ◌∷◌, ℕ, zero, suc, ◌<◌, length, Option}
use Rattle.std.proofs.Common.{inl, inr}
use native.Mathlib.Omega.{arith}
use Rattle.laws.specs.Logic.{and-true, true-and, lt-cases}
use Rattle.laws.specs.Test.{Test}
use Rattle.laws.specs.Count.{count, count_all, ind-other}
use Rattle.types.specs.declared.thread.Thread.{Thread}
use Rattle.types.specs.declared.kernel.Kernel.{Kernel}
use Rattle.block.proofs.Fits.{StateFits}
use Rattle.sound.specs.View.{ids, lists, thread_at}
use Rattle.sound.specs.Threads.{Places, PlaceOk, ThreadsOk}
use Rattle.sound.specs.Tls.{t-tls}
use Rattle.sound.specs.Handles.{Rising, t-rising, rising-far}
use Rattle.sound.specs.Objects.{names, t-held, t-kept, t-contents}
use Rattle.sound.specs.Records.{t-records}
use Rattle.sound.proofs.Threads.{t-threads}
use Rattle.sound.specs.Sound.{state?, Sound, zeros_count}

places-far : (o n : ℕ) (l : List ℕ) → 128 < o → Places n l → count o l ≡ 0
unfolding count
places-far o zero l p z = zeros_count o l (omega arith) z
places-far o (suc n) [] p z = absurd z
places-far o (suc n) (x ∷ xs) p z = omega (arith, ind-other x o (omega (arith, z.1.0)), places-far o n xs p z.1.1)

place-far : (o n : ℕ) (c : Option ℕ) (i : ℕ) (t : Thread) → 128 < o → PlaceOk n c i t → count o (ids t.wait_objects) ≡ 0
place-far o n c i t p h =
    elim (lt-cases i n) [
      | inl l ↦ places-far o t.wait_count (ids t.wait_objects) p (h.used l).list
      | inr l ↦ zeros_count o (ids t.wait_objects) (omega arith) (h.unused l).1
    ]

each-far : (o : ℕ) (ts : List Thread) → ((i : ℕ) → i < length ts → count o (ids (thread_at ts i).wait_objects) ≡ 0) → count_all o (lists ts) ≡ 0
unfolding count_all
each-far o [] h = refl
each-far o (t ∷ ts) h = omega (arith, h 0 (omega arith), each-far o ts (λ i l. h (suc i) (omega arith)))

module _ (k : Kernel) (f : StateFits k) where
  names-far : ThreadsOk k.thread_count k.current_thread k.threads → Rising k.handles.count 0x10000 k.handles.entries k.handles.next.0
      → (o : ℕ) → 128 < o → names k.handles k.threads o ≡ 0
  unfolding names
  names-far t r o p =
      omega (
        arith,
        rising-far o k.handles.count 0x10000 k.handles.entries k.handles.next.0 p r,
        each-far o k.threads (λ i l. place-far o k.thread_count k.current_thread i (thread_at k.threads i) p (t.each i (omega (arith, f.nt)))),
      )

  -- the test tells the fact
  pub t-sound : Test (state? k) (Sound k)
  unfolding state?
  t-sound = record {
    yes = λ e.
        let a = and-true _ _ e in
        let b = and-true _ _ a.1 in
        let c = and-true _ _ b.1 in
        let d = and-true _ _ c.1 in
        let g = and-true _ _ d.1 in
        let h = and-true _ _ g.1 in
        let t = (t-threads k.thread_count k.current_thread k.threads).yes a.0 in
        let r = (t-rising k.handles.count 0x10000 k.handles.entries k.handles.next.0).yes c.0 in
        record {
          fits = f;
          threads = t;
          tls = (t-tls k.threads k.next_tls_slot).yes b.0;
          handles = r;
          counts = (t-held k.objects (names k.handles k.threads) f.ns (names-far t r)).yes d.0;
          kept = (t-kept k.objects f.ni).yes g.0;
          contents = (t-contents k.thread_count k.threads k.objects f.ns).yes h.0;
          records = (t-records k.thread_count k.objects f.ns).yes h.1;
        };
    has = λ s.
        true-and _ _ ((t-threads k.thread_count k.current_thread k.threads).has s.threads)
        (true-and _ _ ((t-tls k.threads k.next_tls_slot).has s.tls)
        (true-and _ _ ((t-rising k.handles.count 0x10000 k.handles.entries k.handles.next.0).has s.handles)
        (true-and _ _ ((t-held k.objects (names k.handles k.threads) f.ns (names-far s.threads s.handles)).has s.counts)
        (true-and _ _ ((t-kept k.objects f.ni).has s.kept)
        (true-and _ _ ((t-contents k.thread_count k.threads k.objects f.ns).has s.contents)
        ((t-records k.thread_count k.objects f.ns).has s.records))))));
  }
