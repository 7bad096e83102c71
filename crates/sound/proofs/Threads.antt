-- The test of the thread table tells the fact.
use Rattle.std.specs.Prelude.{◌≡◌, refl, Bool, true, false, not, ◌≢◌, List, ℕ, ltb, Option, Some}
use Rattle.std.proofs.Common.{sym, ◌∙◌, arith, ltb-true, ltb-false}
use Rattle.laws.specs.Logic.{pick, false-true}
use Rattle.laws.specs.Test.{Test, t-yes, t-eq, t-le, t-and, t_as, t_not}
use Rattle.laws.specs.Numbers.{t-all_below}
use Rattle.types.specs.declared.thread.ThreadStatus.{ThreadStatus}
use Rattle.types.specs.declared.thread.ThreadStatus.TheVariants.{Dead, Running, Ready, Sleeping, WaitSync, WaitArbiter, Dormant}
use Rattle.types.specs.declared.thread.Thread.{Thread}
use Rattle.block.specs.Thread.{thread_words, words_list}
use Rattle.sound.specs.View.{ids, thread_at}
use Rattle.sound.specs.Threads.{t_zeros, t-places, Only, only?, is_current, t-is_current, RunOk, run?, ThreadOk, thread?, Blank, blank?, place?, PlaceOk, t-current, threads?, ThreadsOk}

t-only : (s : ThreadStatus) (n : ℕ) → Test (only? s n) (Only s n)
t-only Dead n = t-eq n 0
t-only Running n = t-eq n 0
t-only Ready n = t-eq n 0
t-only Sleeping n = t-eq n 0
t-only WaitSync n = t-yes
t-only WaitArbiter n = t-eq n 0
t-only Dormant n = t-eq n 0

t_not_current : (c : Option ℕ) (i : ℕ) → Test (not (is_current c i)) (c ≢ Some i)
t_not_current c i =
    t_as (λ e q. false-true (sym e ∙ (t-is_current c i).has q)) (λ n. no (is_current c i) (λ e. n ((t-is_current c i).yes e))) (t_not (is_current c i))
  where
    no : (b : Bool) → (b ≡ true → ⊥) → b ≡ false
    no true f = absurd (f refl)
    no false f = refl

t-run : (s : ThreadStatus) (c : Option ℕ) (i : ℕ) → Test (run? s c i) (RunOk s c i)
t-run Dead c i = t_not_current c i
t-run Running c i = t-is_current c i
t-run Ready c i = t-yes
t-run Sleeping c i = t-yes
t-run WaitSync c i = t-yes
t-run WaitArbiter c i = t-yes
t-run Dormant c i = t-yes

t-thread : (c : Option ℕ) (i : ℕ) (t : Thread) → Test (thread? c i t) (ThreadOk c i t)
unfolding thread?
t-thread c i t =
    t_as (λ h. record { priority = h.0; run = h.1.0; list = h.1.1.0; only = h.1.1.1 }) (λ h. (h.priority, (h.run, (h.list, h.only))))
    (t-and (t-le t.priority 63) (t-and (t-run t.status c i) (t-and (t-places t.wait_count (ids t.wait_objects)) (t-only t.status t.wait_count))))

t-blank : (t : Thread) → Test (blank? t) (Blank t)
unfolding blank?
t-blank t = t-and (t_zeros (words_list (thread_words t))) (t_zeros (ids t.wait_objects))

t-place : (n : ℕ) (c : Option ℕ) (i : ℕ) (t : Thread) → Test (place? n c i t) (PlaceOk n c i t)
unfolding place?
t-place n c i t = go (ltb i n) refl
  where
    go : (b : Bool) → ltb i n ≡ b → Test (pick b (thread? c i t) (blank? t)) (PlaceOk n c i t)
    go true e =
        t_as (λ h. record { used = λ l. h; unused = λ l. absurd (omega (arith, ltb-true i n e)) }) (λ h. h.used (ltb-true i n e)) (t-thread c i t)
    go false e =
        t_as (λ h. record { used = λ l. absurd (omega (arith, ltb-false i n e)); unused = λ l. h }) (λ h. h.unused (ltb-false i n e)) (t-blank t)

pub t-threads : (n : ℕ) (c : Option ℕ) (ts : List Thread) → Test (threads? n c ts) (ThreadsOk n c ts)
unfolding threads?
t-threads n c ts =
    t_as (λ h. record { many = h.0; current = h.1.0; each = h.1.1 }) (λ h. (h.many, (h.current, h.each)))
    (t-and (t-le n 32) (t-and (t-current c n) (t-all_below 32 (λ i. t-place n c i (thread_at ts i)))))
