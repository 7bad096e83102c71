-- A pass by its parts: the tries, the choice, what is found and what is written. Assumes nothing.
use Rattle.std.specs.Prelude.{Option, Some, None}
use Rattle.std.proofs.lemmas.Grind.{common_steps}
use mir.Val.{bool_byte}
use mathlib.Core.Path.{◌≡◌, refl, sym, ap, subst, ◌∙◌}
use mathlib.Core.Bool.{Bool, true, false}
use mathlib.Core.List.{List, [], ◌∷◌}
use Prim.Native.Nat.{ℕ, zero, suc}
use lib.Dec.{eqb}
use lib.ListN.{length}
use Rattle.laws.specs.Logic.{pick, ◌or◌}
use Rattle.codec.specs.Bytes.{over}
use Rattle.codec.proofs.Laws.{length-bytes, over-all}
use Rattle.codec.specs.Layout.{enc_all, dec_as, dec_all}
use Rattle.types.specs.declared.thread.Thread.{Thread}
use Rattle.types.specs.declared.object.ObjectStore.{ObjectStore}
use Rattle.types.specs.declared.kernel.Kernel.{Kernel}
use Rattle.types.specs.Thread.{option_of}
use Rattle.block.specs.declared.Head.{Head}
use Rattle.block.specs.Thread.{enc_thread, dec_thread}
use Rattle.block.specs.Block.{head_at, head_words, enc_block, dec_block}
use Rattle.sound.specs.Question.{sound?}
use Rattle.soundness.specs.Objects.{releases-full}
use Rattle.thread.specs.Threads.{with_threads}
use Rattle.rows.specs.Rows.{head_put}
use Rattle.rows.specs.Holds.{Holds, holds, put-threads, put-head}
use Rattle.rows.specs.Head.{sound-head}
use Rattle.pass.specs.declared.Fate.{Fate}
use Rattle.pass.specs.declared.Fate.TheVariants.{Stays, Given, TimedOut, Slept}
use Rattle.pass.specs.declared.Waits.{Waits}
use Rattle.pass.specs.declared.Passed.{Passed}
use Rattle.pass.specs.Signal.{acquire, acquires, clear_pulses}
use Rattle.pass.specs.Timers.{fire_timers}
use Rattle.pass.specs.Waits.{fate, taken, waited_objects, try_as, try_wait, try_waits}
use Rattle.object.specs.Slots.{content}
use Rattle.sound.specs.View.{thread_at}
use Rattle.pass.specs.Schedule.{switch_as, choose, tried, schedule}
use Rattle.passing.specs.Awake.{during}
use Rattle.scheduler.specs.declared.choose.Turned.{Turned}
use Rattle.scheduler.specs.Turn.{turning, passed, Chooses}
use Rattle.lent.specs.Operations.{out_of_handles?, finding}
use Rattle.outcome.specs.Findings.{found_of, parts-finding}
use Rattle.schedule.specs.Pass.{head_after}

-- ---- no try makes anything too full
acquires-full : (os : List ℕ) (s : ObjectStore) (w : ℕ) → (acquires s os w).full ≡ s.full
unfolding acquires acquire content
acquires-full [] s w = refl
acquires-full (o ∷ os) s w = acquires-full os (acquire s o w) w

try_full : (f : Fate) (w : Waits) (t : ℕ) → (try_as f w t).objects.full ≡ w.objects.full
try_full Stays w t = refl
try_full (Given i) w t =
    releases-full (acquires w.objects (taken (thread_at w.threads t) i) t) (waited_objects (thread_at w.threads t)) ∙ acquires-full (taken (thread_at w.threads t) i) w.objects t
try_full TimedOut w t = releases-full w.objects (waited_objects (thread_at w.threads t))
try_full Slept w t = releases-full w.objects (waited_objects (thread_at w.threads t))

tries_full : (tick n t : ℕ) (w : Waits) → (try_waits tick n t w).objects.full ≡ w.objects.full
unfolding try_waits try_wait
tries_full tick zero t w = refl
tries_full tick (suc n) t w = tries_full tick n (suc t) (try_wait tick w t) ∙ try_full (fate w.threads w.objects tick t) w t

tried-full : (k : Kernel) (tick : ℕ) → (tried k tick).objects.full ≡ k.objects.full
unfolding clear_pulses fire_timers
tried-full k tick = tries_full tick 32 0 (record { objects = fire_timers k.objects tick; threads = k.threads })

-- ---- what is found: the choice finds nothing
either-finding : (t : Bool) (n : ℕ) (x y : Passed) → finding x.kernel ≡ n → finding y.kernel ≡ n → finding (pick t x y).kernel ≡ n
either-finding true n x y e f = e
either-finding false n x y e f = f

none-full : (b : List ℕ) → (dec_block b).objects.full ≡ false
unfolding dec_block
none-full b = refl

switch_finding : (k : Kernel) (s : ObjectStore) (ts : List Thread) (relief : Bool) (c n : Option ℕ) → finding (switch_as k s ts relief c n).kernel ≡ finding (with_threads k k.threads s)
unfolding finding out_of_handles?
switch_finding k s ts relief None None = refl
switch_finding k s ts relief (Some c) None = refl
switch_finding k s ts relief None (Some n) = refl
switch_finding k s ts relief (Some c) (Some n) = either-finding (eqb c n) _ _ _ refl refl

pass-finding : (b : List ℕ) (tick : ℕ) → finding (schedule (dec_block b) tick).kernel ≡ found_of false ((tried (dec_block b) tick).objects.overflow or out_of_handles? (dec_block b))
unfolding schedule
pass-finding b tick =
    let k = dec_block b in
    switch_finding k (tried k tick).objects _ _ k.current_thread _
    ∙ parts-finding b k.threads (tried k tick).objects
    ∙ ap (λ (z : Bool). found_of z ((tried k tick).objects.overflow or out_of_handles? k)) (tried-full k tick ∙ none-full b)

either-over : (v : Bool) → v or true ≡ true
unfolding ◌or◌
either-over true = refl
either-over false = refl

module _ (b : List ℕ) (tick : ℕ) where
  pub handles-found : out_of_handles? (dec_block b) ≡ true → 8 ≡ finding (schedule (dec_block b) tick).kernel
  handles-found e = sym (pass-finding b tick ∙ rw (e, either-over (tried (dec_block b) tick).objects.overflow))

  pub over-found : (tried (dec_block b) tick).objects.overflow ≡ true → 8 ≡ finding (schedule (dec_block b) tick).kernel
  unfolding ◌or◌
  over-found e = sym (pass-finding b tick ∙ rw e)

  pub none_found : (tried (dec_block b) tick).objects.overflow ≡ false → out_of_handles? (dec_block b) ≡ false → 0 ≡ finding (schedule (dec_block b) tick).kernel
  unfolding ◌or◌
  none_found e f = sym (pass-finding b tick ∙ rw (e, f))

-- ---- what is written: b is the block before, e that after the tries
module _ (b e : List ℕ) (tick : ℕ) (d : dec_block e ≡ during (dec_block b) (tried (dec_block b) tick)) (s : sound? e ≡ true) (h : Head) (eh : h ≡ head_at e) (c : Option ℕ) (ec : c ≡ option_of h.current_flag h.current_value)
    (ts : List Thread) (et : ts ≡ dec_all dec_thread 160 32 e 128) (t : Turned) (g : Chooses ts c (eqb h.relief 1) tick t) where
  abbrev k : Kernel
  k = dec_block b

  abbrev w : Waits
  w = tried k tick

  head-is : h ≡ head_words (during k w)
  head-is = eh ∙ sound-head e s ∙ ap head_words d

  current-is : c ≡ k.current_thread
  unfolding dec_block dec_as
  current-is = ec ∙ (λ i. option_of (eh i).current_flag (eh i).current_value) ∙ ap (λ (z : Kernel). z.current_thread) d

  relief-is : eqb h.relief 1 ≡ k.relief
  unfolding dec_block dec_as
  relief-is = (λ i. eqb (eh i).relief 1) ∙ ap (λ (z : Kernel). z.relief) d

  threads_are : ts ≡ w.threads
  unfolding dec_block
  threads_are = et ∙ ap (λ (z : Kernel). z.threads) d

  pub pass-is : passed k w.objects t ≡ schedule k tick
  unfolding schedule
  pass-is =
      let q : turning k c (eqb h.relief 1) ≡ k = λ i. turning k (current-is i) (relief-is i) in
      subst (λ (z : Kernel). passed z w.objects t ≡ choose z (record { objects = w.objects; threads = ts }) tick) q (g k w.objects)
      ∙ ap (λ (l : List Thread). choose k (record { objects = w.objects; threads = l }) tick) threads_are

  pub written_is : length t.threads ≡ 32 → head_put (over e 128 (enc_all enc_thread t.threads)) (head_after h t.current t.relief) ≡ enc_block (passed k w.objects t).kernel
  written_is n =
      ap (λ (z : Head). head_put (over e 128 (enc_all enc_thread t.threads)) (head_after z t.current t.relief)) head-is
      ∙ (put-head (put-threads (subst (Holds e) d (holds e s)) t.threads n) (passed k w.objects t).kernel refl refl refl refl refl).same

-- ---- what is answered
pub flag-is : (b : Bool) → bool_byte b ≡ pick b 1 0
flag-is true = refl
flag-is false = refl

pub ruleset puts = (common_steps, length-bytes, over-all, flag-is)
