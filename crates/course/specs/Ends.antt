-- A wait ends by time-out exactly at the first accepted pass from its wake tick on, if nothing was given by then.
use Rattle.std.specs.Prelude.{◌≡◌, Bool, List, [], ◌∷◌, ℕ, zero, suc, ◌<◌, take, Some}
use Rattle.std.proofs.Math.Path.{refl, ap, sym, subst}
use Rattle.std.proofs.Common.{◌∙◌, arith}
use Rattle.std.proofs.Math.Bool.{true, false}
use borrow.Author.Tests.{eqb-false, le-leb, lt-leb}
use Rattle.laws.specs.Logic.{◌and◌, true-and, and_no, and-false, false-true}
use Rattle.types.specs.declared.thread.ThreadStatus.{ThreadStatus}
use Rattle.types.specs.declared.thread.ThreadStatus.TheVariants.{Dead, Running, Ready, Sleeping, WaitSync, WaitArbiter, Dormant}
use Rattle.types.specs.declared.kernel.Kernel.{Kernel}
use Rattle.types.specs.Thread.{is_blocked}
use Rattle.sound.specs.View.{ids, thread_at}
use Rattle.sound.specs.Sound.{Sound}
use Rattle.soundness.specs.Whole.{sound-parts}
use Rattle.kernel.specs.NextEvent.{contains}
use Rattle.pass.specs.Pick.{is_runnable}
use Rattle.svc.specs.declared.Registers.{Registers}
use Rattle.svc.specs.Dispatch.{runs?, given}
use Rattle.demand.specs.Words.{Doing, starts, creates, passes, looks, ends, calls, collects, Event, strikes?, Spared, Awaited, awaits, awaited_by, gives?, given?, pass?, pass_from?, TimesOut, FirstPass, NotGiven, OnTime}
use Rattle.timing.specs.Wait.{Wait, wait_of, Blocked, blocked_in, blocked-runs}
use Rattle.timing.specs.Others.{create-other, end-other}
use Rattle.timing.specs.Late.{given-words}
use Rattle.timing.specs.Ends as one
use Rattle.deadlines.specs.Calls.{wakes}
use Rattle.deadlines.specs.Ends.{wakes-words, call_runnable, call-waits}
use Rattle.deadlines.specs.Collect.{collect-waits}
use Rattle.course.specs.Read.{gives-read}
use Rattle.course.specs.Course.{effect, Asked, Course, event}

-- thread τ is in a wait for a that runs out at w
pub record InWait (τ w : ℕ) (a : Awaited) (k : Kernel) : Type 0 where
  pub is : Blocked k.threads τ
  pub wake : (thread_at k.threads τ).wakeup_at ≡ Some (record { 0 = w })
  pub for : awaited_by (thread_at k.threads τ) ≡ a

in_as : (τ w : ℕ) (a : Awaited) (k m : Kernel) → wait_of (thread_at m.threads τ) ≡ wait_of (thread_at k.threads τ) → InWait τ w a k → InWait τ w a m
in_as τ w a k m e p = record {
  is = ap (λ (x : Wait). is_blocked x.status) e ∙ p.is;
  wake = ap (λ (x : Wait). x.wake) e ∙ p.wake;
  for = ap (λ (x : Wait). awaits x.status x.all (take x.count (ids x.objects)) x.address) e ∙ p.for;
}

runnable_blocked : (s : ThreadStatus) → is_runnable s ≡ true → is_blocked s ≡ false
runnable_blocked Dead e = refl
runnable_blocked Running e = refl
runnable_blocked Ready e = refl
runnable_blocked Sleeping e = sym e
runnable_blocked WaitSync e = sym e
runnable_blocked WaitArbiter e = sym e
runnable_blocked Dormant e = refl

-- ---- one operation: the wait goes on, runs out, or the thread is given what it waited for
pub data Fated (τ w : ℕ) (a : Awaited) (e : Event) : Type 0 where
  stays : InWait τ w a e.after → pass_from? w e ≡ false → given? τ e ≡ false → (pass? e ≡ true → gives? τ e.does e.before ≡ false) → Fated τ w a e
  out : is_runnable (thread_at e.after.threads τ).status ≡ true → pass? e ≡ true → pass_from? w e ≡ true → given? τ e ≡ false → Fated τ w a e
  gets : is_runnable (thread_at e.after.threads τ).status ≡ true → given? τ e ≡ true → Fated τ w a e

module _ (τ w : ℕ) (a : Awaited) (k : Kernel) (p : InWait τ w a k) where
  -- an accepted operation that gives something, nothing, or leaves the thread waiting
  module _ (d : Doing) where
    abbrev done : Event
    done = event true k d (effect d k)

    abbrev after : ThreadStatus
    after = (thread_at (effect d k).threads τ).status

    something : gives? τ d k ≡ true → is_runnable after ≡ true → given? τ done ≡ true
    unfolding ◌and◌
    something g e = true-and (gives? τ d k) (is_runnable after) g e

    nothing : gives? τ d k ≡ false → given? τ done ≡ false
    unfolding ◌and◌
    nothing g = and_no (gives? τ d k) (is_runnable after) g

    waits-on : InWait τ w a (effect d k) → given? τ done ≡ false
    unfolding ◌and◌
    waits-on q = ap (λ (b : Bool). gives? τ d k and b) (blocked-runs after q.is) ∙ and-false (gives? τ d k)

  passed : (tick : ℕ) → one.Ends k tick τ (record { 0 = w }) → Fated τ w a (event true k (passes tick) (effect (passes tick) k))
  unfolding ◌and◌
  passed tick (one.goes_on_lem e g l) =
      let n : gives? τ (passes tick) k ≡ false = sym (given-words k tick τ) ∙ g in
      stays (in_as τ w a k _ e p) (lt-leb w tick l) (nothing (passes tick) n) (λ q. n)
  passed tick (one.runs-out e g l) = out e refl (le-leb w tick l) (nothing (passes tick) (sym (given-words k tick τ) ∙ g))
  passed tick (one.gets e g) = gets e (something (passes tick) (sym (given-words k tick τ) ∙ g) e)

  called : (number : ℕ) (r : Registers) (words : List ℕ) (tick : ℕ) → Sound k → runs? k ≡ true → (q : Bool) → contains (wakes number k (given number r)) τ ≡ q
      → Fated τ w a (event true k (calls number r words tick) (effect (calls number r words tick) k))
  unfolding ◌and◌
  called number r words tick s g true e =
      let h = call_runnable number k (given number r) words tick (sound-parts k s) τ e in
      gets h (something (calls number r words tick) (sym (gives-read number r words tick τ k) ∙ wakes-words number k (given number r) words tick τ e) h)
  called number r words tick s g false e =
      let i : InWait τ w a (effect (calls number r words tick) k) = in_as τ w a k _ (call-waits number k (given number r) words tick (sound-parts k s) g τ p.is e) p in
      stays i refl (waits-on (calls number r words tick) i) (λ q. false-true q)

  did : (d : Doing) → Asked d k → strikes? τ d k ≡ false → Fated τ w a (event true k d (effect d k))
  unfolding ◌and◌
  did (starts word) h s = false-true (sym s)
  did (creates entry stack priority processor) h s = stays (in_as τ w a k _ (ap wait_of (create-other k entry stack priority processor (sound-parts k h) τ p.is)) p) refl refl (λ q. false-true q)
  did (passes tick) h s =
      let l : τ < 32 = omega (arith, blocked_in k.threads τ p.is, (sound-parts k h.0).nt) in
      passed tick (one.pass-end k tick τ l p.is (record { 0 = w }) p.wake)
  did looks h s = stays p refl refl (λ q. false-true q)
  did (ends t) h s = stays (in_as τ w a k _ (ap wait_of (end-other k t τ (λ e. eqb-false t τ s (sym e)))) p) refl refl (λ q. false-true q)
  did (calls number r words tick) h s = called number r words tick h.0 h.1 (contains (wakes number k (given number r)) τ) refl
  did collects h s = stays (in_as τ w a k _ (collect-waits k τ) p) refl refl (λ q. false-true q)

  fated_as : (u : Bool) (d : Doing) (m : Kernel) → (u ≡ false → m ≡ k) → (u ≡ true → Asked d k) → (u ≡ true → m ≡ effect d k) → u and strikes? τ d k ≡ false
      → Fated τ w a (event u k d m)
  unfolding ◌and◌
  fated_as false d m r q f s = subst (λ (x : Kernel). Fated τ w a (event false k d x)) (sym (r refl)) (stays p refl refl (λ q. false-true q))
  fated_as true d m r q f s = subst (λ (x : Kernel). Fated τ w a (event true k d x)) (sym (f refl)) (did d (q refl) s)

-- ---- over every list
not-both : {A : Type 0} {q : Bool} → q ≡ true → q ≡ false → A
not-both e f = false-true (sym f ∙ e)

module _ (τ w : ℕ) (a : Awaited) (e : Event) (es : List Event) where
  abbrev status : ThreadStatus
  status = (thread_at e.after.threads τ).status

  awake : {A : Type 0} → is_runnable status ≡ true → is_blocked status ≡ true → A
  awake r b = not-both b (runnable_blocked status r)

  fated : Fated τ w a e → (InWait τ w a e.after → OnTime τ w a es) → OnTime τ w a (e ∷ es)
  fated (stays p f g n) ih = record { only = only; must = must; handed = ((λ q h. not-both h (n q)), (λ b. (ih p).handed)); waits = λ b. (p.for, (ih p).waits) }
    where
      only : (i : ℕ) → TimesOut τ (e ∷ es) i → FirstPass w (e ∷ es) i × NotGiven τ (e ∷ es) i
      only zero x = awake x.0 p.is
      only (suc i) x = let r = (ih p).only i x.1 in ((f, r.0), (g, r.1))

      must : (i : ℕ) → FirstPass w (e ∷ es) i → NotGiven τ (e ∷ es) i → TimesOut τ (e ∷ es) i
      must zero x y = not-both x f
      must (suc i) x y = (p.is, (ih p).must i x.1 y.1)
  fated (out r pa on g) ih = record { only = only; must = must; handed = ((λ q h. r), (λ b. awake r b)); waits = λ b. awake r b }
    where
      only : (i : ℕ) → TimesOut τ (e ∷ es) i → FirstPass w (e ∷ es) i × NotGiven τ (e ∷ es) i
      only zero x = (on, g)
      only (suc i) x = awake r x.0

      must : (i : ℕ) → FirstPass w (e ∷ es) i → NotGiven τ (e ∷ es) i → TimesOut τ (e ∷ es) i
      must zero x y = (r, pa, g)
      must (suc i) x y = not-both on x.0
  fated (gets r g) ih = record { only = only; must = must; handed = ((λ q h. r), (λ b. awake r b)); waits = λ b. awake r b }
    where
      only : (i : ℕ) → TimesOut τ (e ∷ es) i → FirstPass w (e ∷ es) i × NotGiven τ (e ∷ es) i
      only zero x = not-both g x.2
      only (suc i) x = awake r x.0

      must : (i : ℕ) → FirstPass w (e ∷ es) i → NotGiven τ (e ∷ es) i → TimesOut τ (e ∷ es) i
      must zero x y = not-both g y
      must (suc i) x y = not-both g y.0

pub on-time : (τ w : ℕ) (a : Awaited) (k : Kernel) (es : List Event) → Course k es → InWait τ w a k → Spared τ es → OnTime τ w a es
on-time τ w a k [] c p s = record { only = λ i x. absurd x; must = λ i x y. x; handed = tt; waits = tt }
on-time τ w a k (e ∷ es) c p s =
    let q : InWait τ w a e.before = subst (InWait τ w a) (sym c.0) p in
    fated τ w a e es (fated_as τ w a e.before q e.accepted e.does e.after c.1.refused c.1.asked c.1.did s.0) (λ r. on-time τ w a e.after es c.2 r s.1)
