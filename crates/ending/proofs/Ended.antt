-- A block that holds a state, with a thread ended in it; what is found then. Assumes nothing.
use Rattle.std.specs.Prelude.{Option}
use mathlib.Core.Path.{◌≡◌, refl, sym, ap, subst, ◌∙◌}
use mathlib.Core.Logic.{◌≢◌}
use mathlib.Core.Bool.{Bool, false}
use mathlib.Core.List.{List}
use Prim.Native.Nat.{ℕ, ◌≤◌}
use lib.ListN.{take}
use Rattle.std.proofs.lemmas.Grind.{common_steps}
use borrow.Author.Tests.{ne_eqb}
use Rattle.types.specs.Refusal.{refusal-some}
use Rattle.laws.specs.Logic.{pick, ◌or◌}
use Rattle.types.specs.declared.thread.Thread.{Thread}
use Rattle.types.specs.declared.object.KObject.{KObject}
use Rattle.types.specs.declared.object.KObject.TheVariants as kind
use Rattle.types.specs.declared.object.Slot.{Slot}
use Rattle.types.specs.declared.kernel.Kernel.{Kernel}
use Rattle.types.specs.Object.{kind_number}
use Rattle.types.specs.Thread.{option_flag, option_value}
use Rattle.block.specs.declared.Head.{Head}
use Rattle.block.specs.Block.{head_words, dec_block}
use Rattle.sound.specs.View.{ids, no_thread, thread_at}
use Rattle.object.specs.Slots.{with_object}
use Rattle.object.specs.Store.{releases}
use Rattle.soundness.specs.Objects.{releases-full, releases-overflow}
use Rattle.thread.specs.Thread.{clear_wait}
use Rattle.thread.specs.Threads.{with_threads, disowned, disown, ended, left_by, end_wait, end_thread}
use Rattle.thread.proofs.Steps.{set_again}
use Rattle.lent.specs.Operations.{finding, out_of_handles?}
use Rattle.rows.specs.Rows.{thread_put, head_put}
use Rattle.rows.specs.Holds.{Holds, put-thread, put-head}
use Rattle.rows.specs.Slots.{SlotsTo, slots-each}
use Rattle.release.specs.Encoded.{sound-encoded}
use Rattle.outcome.specs.Findings.{found_of}

-- ---- mutexes given back; only a mutex changes
pub disowned-other : (t : ℕ) (x : Slot) → kind_number x.object ≢ 3 → with_object x (disowned t x.object) ≡ x
disowned-other t x z = ap (with_object x) (go x.object z)
  where
    go : (o : KObject) → kind_number o ≢ 3 → disowned t o ≡ o
    go (kind.Free n) z = refl
    go (kind.Thread u) z = refl
    go (kind.Event e) z = refl
    go (kind.Mutex m) z = absurd (z refl)
    go (kind.Semaphore s) z = refl
    go (kind.Timer u) z = refl
    go (kind.AddressArbiter a) z = refl
    go kind.Process z = refl
    go kind.ResourceLimit z = refl

-- slot by slot; s is the block before
abbrev pub DisownedTo : ℕ → List ℕ → ℕ → List ℕ → Type 0
DisownedTo t s = SlotsTo s (λ _ x. with_object x (disowned t x.object))

pub disowned-all : (t : ℕ) (s : List ℕ) (b : List ℕ) (i : ℕ) → 128 ≤ i → DisownedTo t s i b → Holds b (with_threads (dec_block s) (dec_block s).threads (disown (dec_block s).objects t))
unfolding disown
disowned-all t s b i h g = slots-each s (λ x. with_object x (disowned t x.object)) i b h g

-- ---- the whole: k is the state before, q that with the objects of the wait let go, e the block with the mutexes given back
module _ (e : List ℕ) (k q : Kernel) (t : ℕ) where
  abbrev old : Thread
  old = thread_at k.threads t

  abbrev head_ended : Head → Option ℕ → Head
  head_ended h c = record h { current_flag = option_flag c; current_value = option_value c }

  abbrev let_go : Kernel
  let_go = with_threads k k.threads (releases k.objects (take old.wait_count (ids old.wait_objects)))

  unfolded : Holds e (with_threads let_go let_go.threads (disown let_go.objects t)) → Holds (head_put (thread_put e t (ended (clear_wait old))) (head_ended (head_words let_go) (left_by k.current_thread t))) (end_thread k t)
  unfolding end_thread end_wait disown
  unfolded g = put-head (put-thread g t (ended (clear_wait old))) (end_thread k t) (sym (set_again ended no_thread k.threads t (clear_wait old))) refl refl refl refl

  -- with the head h, the thread x, the current thread c
  pub ended_in : (x : Thread) → x ≡ old → (c : Option ℕ) → c ≡ k.current_thread → q ≡ with_threads k k.threads (releases k.objects (take x.wait_count (ids x.wait_objects)))
      → (h : Head) → h ≡ head_words q → Holds e (with_threads q q.threads (disown q.objects t))
      → Holds (head_put (thread_put e t (ended (clear_wait x))) (head_ended h (left_by c t))) (end_thread k t)
  ended_in x ex c ec eq h eh g =
      let m : q ≡ let_go = eq ∙ ap (λ (y : Thread). with_threads k k.threads (releases k.objects (take y.wait_count (ids y.wait_objects)))) ex in
      rw (eh, ec, ex, m) (unfolded (subst (λ (z : Kernel). Holds e (with_threads z z.threads (disown z.objects t))) m g))

-- ---- what is found
parts : (x y o : Bool) → x ≡ false → y ≡ false → ◌≡◌ {A = ℕ} (pick (false or (x or false)) 7 (pick (false or (y or (false or o))) 8 0)) (found_of false o)
unfolding ◌or◌
parts x y o e f = λ i. pick (e i or false) 7 (pick (f i or o) 8 0)

pub end-finding : (b : List ℕ) (t : ℕ) → finding (end_thread (dec_block b) t) ≡ found_of false (out_of_handles? (dec_block b))
unfolding finding end_thread end_wait disown dec_block out_of_handles?
end-finding b t =
    let k = dec_block b in
    let l = take (thread_at k.threads t).wait_count (ids (thread_at k.threads t).wait_objects) in
    parts _ _ _ (releases-full k.objects l) (releases-overflow k.objects l)

pub ruleset ends = (common_steps, sound-encoded)

pub ruleset ended_found = (common_steps, ne_eqb, refusal-some, end-finding)
