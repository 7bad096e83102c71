-- The turn of a thread in a pass, in a sound block. Assumes nothing.
use Rattle.std.specs.Prelude.{Option, ◌⊎◌}
use Rattle.std.proofs.Common.{inl, inr}
use Rattle.std.proofs.lemmas.Grind.{common_steps}
use mathlib.Core.Path.{◌≡◌, refl, sym, ap, subst, ◌∙◌}
use mathlib.Core.Bool.{Bool, true, false, true≢false}
use mathlib.Core.List.{List, [], ◌∷◌}
use Prim.Native.Nat.{ℕ, suc, ◌+◌, ◌-◌, ◌≤◌, ◌<◌}
use native.Mathlib.Numerals.{add-one}
use native.Mathlib.Omega.{arith}
use lib.ListN.{take, set}
use Rattle.laws.specs.Logic.{◌or◌, or-false}
use Rattle.types.specs.declared.thread.Thread.{Thread}
use Rattle.types.specs.declared.object.ObjectStore.{ObjectStore}
use Rattle.types.specs.declared.kernel.Kernel.{Kernel}
use Rattle.block.specs.Block.{dec_block}
use Rattle.sound.specs.View.{ids, object_at, thread_at, first_ids}
use Rattle.sound.specs.Objects.{Live}
use Rattle.sound.specs.Question.{sound?}
use Rattle.sound.proofs.Question.{t_block}
use Rattle.object.specs.Store.{releases}
use Rattle.soundness.specs.Objects.{releases-overflow}
use Rattle.soundness.specs.Whole.{Parts, sound-parts}
use Rattle.thread.specs.Threads.{with_threads}
use Rattle.rows.specs.Rows.{thread_put}
use Rattle.rows.specs.Holds.{Holds, put-thread}
use Rattle.release.specs.Encoded.{Encoded, encoded-holds, held-sound, sound-encoded}
use Rattle.pass.specs.declared.Fate.{Fate}
use Rattle.pass.specs.declared.Fate.TheVariants.{Stays, Given, TimedOut, Slept}
use Rattle.pass.specs.declared.Waits.{Waits}
use Rattle.pass.specs.Signal.{acquire_over, acquire, acquires, clear_pulses}
use Rattle.pass.specs.Timers.{due_by, any_over, fire_timers}
use Rattle.pass.specs.Waits.{satisfied_at, fate_as, fate, waited_objects, try_as, try_wait, try_waits}
use Rattle.pass.specs.Schedule.{tried}
use Rattle.take.proofs.Taken.{fits-as}
use Rattle.passing.specs.Timers.{clear-overflow}
use Rattle.passing.specs.Awake.{during}
use Rattle.passing.specs.Fates.{FateOk, fate-ok, list-short}
use Rattle.passing.specs.Tries.{try_waits-sticks, try_wait-parts}
use Rattle.tries.specs.Tries.{after, is_over, took, waits_of}

-- the state k with other objects
abbrev with : Kernel → ObjectStore → Kernel
with k s = with_threads k k.threads s

-- a block has no finding
pub none_over : (b : List ℕ) → false ≡ (dec_block b).objects.overflow
unfolding dec_block
none_over b = refl

-- a try that gives no object takes none
pub took-same : (f : Fate) → (f ≡ Stays) ⊎ ((f ≡ TimedOut) ⊎ (f ≡ Slept)) → (s : ObjectStore) (t : Thread) (w : ℕ) → took f s t w ≡ s
took-same f (inl e) s t w = rw e
took-same f (inr (inl e)) s t w = rw e
took-same f (inr (inr e)) s t w = rw e

-- one object taken
pub one-taken : (b : List ℕ) (o w : ℕ) → acquire_over (object_at (dec_block b).objects o) ≡ (acquires (dec_block b).objects (o ∷ []) w).overflow
unfolding acquires acquire dec_block ◌or◌
one-taken b o w = refl

pub one-is : (s : ObjectStore) (o w : ℕ) → acquire s o w ≡ acquires s (o ∷ []) w
unfolding acquires
one-is s o w = refl

true-unless : (t : Bool) → (t ≡ false → false ≡ true) → t ≡ true
true-unless true f = refl
true-unless false f = f refl

fired-fits : (s : ObjectStore) (tick : ℕ) → (fire_timers s tick).overflow ≡ false → any_over tick s.slots ≡ false
unfolding fire_timers
fired-fits s tick e = (or-false s.overflow (any_over tick s.slots) e).1

-- ---- one turn
module _ (b : List ℕ) (s : sound? b ≡ true) (tick i : ℕ) where
  abbrev k : Kernel
  k = dec_block b

  abbrev old : Thread
  old = thread_at k.threads i

  parts : Parts k
  parts = sound-parts k ((t_block b).yes s).state

  abbrev pub fate_of : Fate
  fate_of = fate k.threads k.objects tick i

  -- as it is told from the thread t and the index that its wait gives
  pub fate-is : (t : Thread) → t ≡ old → (found : Option ℕ) → found ≡ satisfied_at k.threads k.objects i t.wait_all (take t.wait_count (ids t.wait_objects))
      → fate_as t.status found (due_by t.wakeup_at tick) ≡ fate_of
  unfolding fate
  fate-is t e found f = rw (f, e)

  -- a wait that goes on
  pub stays : is_over fate_of ≡ false → (false ≡ (try_wait tick (waits_of k) i).objects.overflow) × (k ≡ during k (try_wait tick (waits_of k) i))
  unfolding try_wait
  stays e = let w = go fate_of e in (sym (ap (λ (z : Waits). z.objects.overflow) w ∙ parts.clean.3), ap (during k) (sym w))
    where
      go : (f : Fate) → is_over f ≡ false → try_as f (waits_of k) i ≡ waits_of k
      go Stays q = refl
      go (Given j) q = absurd (true≢false q)
      go TimedOut q = absurd (true≢false q)
      go Slept q = absurd (true≢false q)

  -- one that is over is that of a thread that lives
  pub lives : is_over fate_of ≡ true → Live k.threads i
  lives = go fate_of (fate-ok k.threads k.objects tick i (list-short k.threads i parts.threads_fit))
    where
      go : (f : Fate) → FateOk k.threads i f → is_over f ≡ true → Live k.threads i
      go Stays h q = absurd (true≢false (sym q))
      go (Given j) h q = h.0
      go TimedOut h q = h
      go Slept h q = h

  pub over-is : (took fate_of k.objects old i).overflow ≡ (try_wait tick (waits_of k) i).objects.overflow
  unfolding try_wait
  over-is = go fate_of
    where
      go : (f : Fate) → (took f k.objects old i).overflow ≡ (try_as f (waits_of k) i).objects.overflow
      go Stays = refl
      go (Given j) = sym (releases-overflow (took (Given j) k.objects old i) (waited_objects old))
      go TimedOut = sym (releases-overflow k.objects (waited_objects old))
      go Slept = sym (releases-overflow k.objects (waited_objects old))

  turn_is : is_over fate_of ≡ true → with_threads k (set k.threads i (after fate_of old)) (releases (took fate_of k.objects old i) (waited_objects old)) ≡ during k (try_wait tick (waits_of k) i)
  unfolding try_wait
  turn_is = go fate_of
    where
      go : (f : Fate) → is_over f ≡ true → with_threads k (set k.threads i (after f old)) (releases (took f k.objects old i) (waited_objects old)) ≡ during k (try_as f (waits_of k) i)
      go Stays q = absurd (true≢false (sym q))
      go (Given j) q = refl
      go TimedOut q = refl
      go Slept q = refl

  -- t is the thread, g what becomes of it, x the block with what is taken, y that with the list let go, v the thread's record then
  pub turned : (t : Thread) → t ≡ old → (g : Fate) → g ≡ fate_of → is_over fate_of ≡ true → (try_wait tick (waits_of k) i).objects.overflow ≡ false → (x y : List ℕ) → dec_block x ≡ with k (took g k.objects t i)
      → dec_block y ≡ with (dec_block x) (releases (dec_block x).objects (waited_objects t)) → Encoded y → (v : Thread) → v ≡ after g t
      → (dec_block (thread_put y i v) ≡ during k (try_wait tick (waits_of k) i)) × (sound? (thread_put y i v) ≡ true)
  turned t et g eg o fine x y ex ey en v ev =
      let q : dec_block y ≡ with k (releases (took fate_of k.objects old i) (waited_objects old)) =
      ey ∙ ap (λ (z : Kernel). with z (releases z.objects (waited_objects t))) ex ∙ (λ j. with k (releases (took (eg j) k.objects (et j) i) (waited_objects (et j)))) in
      let w : v ≡ after fate_of old = ev ∙ (λ j. after (eg j) (et j)) in
      let h : Holds (thread_put y i v) (during k (try_wait tick (waits_of k) i)) =
      subst (Holds (thread_put y i v)) ((λ j. with_threads (q j) (set (q j).threads i (w j)) (q j).objects) ∙ turn_is o) (put-thread (encoded-holds y en) i v) in
      held-sound _ _ h (try_wait-parts k tick (waits_of k) i fine parts)

-- ---- the turns one after the other, from the state k on; those of threads from i on are still to come
module _ (k : Kernel) (tick : ℕ) where
  abbrev pub all_tried : Kernel
  all_tried = during k (try_waits tick 32 0 (waits_of k))

  pub record Trying (i : ℕ) (b : List ℕ) : Type 0 where
    pub sound : sound? b ≡ true
    pub goal : during (dec_block b) (try_waits tick (32 - i) i (waits_of (dec_block b))) ≡ all_tried

  one_more : (i : ℕ) (w : Waits) → i < 32 → try_waits tick (32 - i) i w ≡ try_waits tick (32 - (i + 1)) (i + 1) (try_wait tick w i)
  unfolding try_waits
  one_more i w h = let e : 32 - i ≡ suc (32 - (i + 1)) = omega arith in rw (e, add-one i)

  pub try_more : (i : ℕ) (b e : List ℕ) → i < 32 → Trying i b → dec_block e ≡ during (dec_block b) (try_wait tick (waits_of (dec_block b)) i) → sound? e ≡ true → Trying (i + 1) e
  try_more i b e h g d s = record {
    sound = s;
    goal = ap (λ (z : Kernel). during z (try_waits tick (32 - (i + 1)) (i + 1) (waits_of z))) d ∙ ap (during (dec_block b)) (sym (one_more i (waits_of (dec_block b)) h)) ∙ g.goal;
  }

  -- a count that does not fit at a turn does not fit at the end
  pub try_over : (i : ℕ) (b : List ℕ) → i < 32 → Trying i b → (try_wait tick (waits_of (dec_block b)) i).objects.overflow ≡ true → all_tried.objects.overflow ≡ true
  try_over i b h g e =
      true-unless all_tried.objects.overflow (λ q. sym (try_waits-sticks tick (32 - (i + 1)) (i + 1) (try_wait tick (waits_of (dec_block b)) i) (ap (λ (z : Waits). z.objects.overflow) (sym (one_more i (waits_of (dec_block b)) h)) ∙ ap (λ (z : Kernel). z.objects.overflow) g.goal ∙ q)) ∙ e)

  pub try_end : (i : ℕ) (b : List ℕ) → 32 ≤ i → Trying i b → dec_block b ≡ all_tried
  unfolding try_waits
  try_end i b h g = let e : 32 - i ≡ 0 = omega arith in rw e at g.goal

-- ---- the whole: k is the state before, q that with the timers fired
module _ (k : Kernel) (tick : ℕ) where
  -- a count of periods that does not fit
  pub fires-over : any_over tick k.objects.slots ≡ true → (tried k tick).objects.overflow ≡ true
  fires-over e = true-unless (tried k tick).objects.overflow (λ q. sym (fires_fit q) ∙ e)
    where
      fires_fit : (tried k tick).objects.overflow ≡ false → any_over tick k.objects.slots ≡ false
      fires_fit q = fired-fits k.objects tick (try_waits-sticks tick 32 0 (record { objects = fire_timers k.objects tick; threads = k.threads }) (sym (clear-overflow _) ∙ q))

  module _ (q : Kernel) (e : q ≡ with k (fire_timers k.objects tick)) where
    pub tried-over : (all_tried q tick).objects.overflow ≡ (tried k tick).objects.overflow
    tried-over = ap (λ (z : Kernel). (try_waits tick 32 0 (waits_of z)).objects.overflow) e ∙ sym (clear-overflow _)

    pub tried-is : (x : Kernel) → x ≡ all_tried q tick → with x (clear_pulses x.objects) ≡ during k (tried k tick)
    tried-is x d = ap (λ (z : Kernel). with z (clear_pulses z.objects)) d ∙ ap (λ (z : Kernel). during z (record { objects = clear_pulses (try_waits tick 32 0 (waits_of z)).objects; threads = (try_waits tick 32 0 (waits_of z)).threads })) e

pub ruleset takings = (common_steps, first_ids, none_over, took-same, one-taken, one-is)

pub ruleset turns = (common_steps, first_ids, sound-encoded, fits-as, fate-is, stays, lives, over-is)

pub ruleset tries = (common_steps, none_over, try_more, try_end, tried-is)
