-- A thread that is the only most urgent one at the pass that finds it awake and at the next runs at one of the two.
use Rattle.std.specs.Prelude.{◌≡◌, refl, Bool, true, false, ◌⊎◌, List, [], ◌∷◌, ℕ}
use Rattle.std.proofs.Common.{ap, sym, subst, ◌∙◌, inl, inr}
use Rattle.laws.specs.Logic.{◌and◌, and-true, false-true}
use Rattle.types.specs.declared.kernel.Kernel.{Kernel}
use Rattle.sound.specs.View.{thread_at}
use Rattle.soundness.specs.Whole.{sound-parts}
use Rattle.pass.specs.Pick.{is_runnable}
use Rattle.pass.specs.Schedule.{schedule}
use Rattle.svc.specs.Dispatch.{given}
use Rattle.demand.specs.Words.{Doing, starts, creates, passes, looks, ends, calls, collects, Event, strikes?, Spared, is_pass, pass?, Lowest, LowestAt, RunsAt, IfElse, AtNextPass, InTwo}
use Rattle.timing.specs.Runs.{Urgent, runs_in_two, urgent-after}
use Rattle.timing.specs.Relief.{create-relief, end-relief}
use Rattle.deadlines.specs.Ends.{call-relief}
use Rattle.deadlines.specs.Collect.{collect-relief}
use Rattle.course.specs.Course.{effect, Asked, Real, Course, event}

if_else : {P Q : Type 0} (q : Bool) → (q ≡ true → P) → (q ≡ false → Q) → IfElse q P Q
if_else true f g = f refl
if_else false f g = g refl

-- an accepted pass at a tick at which the thread is the most urgent
pub record Picks (τ : ℕ) (e : Event) : Type 0 where
  pub tick : ℕ
  pub after : e.after ≡ (schedule e.before tick).kernel
  pub urgent : Urgent e.before tick τ

picks-did : (τ : ℕ) (k : Kernel) (d : Doing) → Asked d k → is_pass d ≡ true → Lowest k.threads (effect d k).threads τ → Picks τ (event true k d (effect d k))
picks-did τ k (starts word) a e l = false-true e
picks-did τ k (creates entry stack priority processor) a e l = false-true e
picks-did τ k (passes tick) a e l = record { tick = tick; after = refl; urgent = urgent-after k tick τ (sound-parts k a.0) l }
picks-did τ k looks a e l = false-true e
picks-did τ k (ends t) a e l = false-true e
picks-did τ k (calls number r words tick) a e l = false-true e
picks-did τ k collects a e l = false-true e

picks_as : (τ : ℕ) (k : Kernel) (a : Bool) (d : Doing) (m : Kernel) → (a ≡ true → Asked d k) → (a ≡ true → m ≡ effect d k) → a and is_pass d ≡ true → Lowest k.threads m.threads τ
    → Picks τ (event a k d m)
unfolding ◌and◌
picks_as τ k false d m q f e l = false-true e
picks_as τ k true d m q f e l =
    subst (λ (x : Kernel). Picks τ (event true k d x)) (sym (f refl)) (picks-did τ k d (q refl) e (subst (λ (x : Kernel). Lowest k.threads x.threads τ) (f refl) l))

picks : (τ : ℕ) (e : Event) → Real e → pass? e ≡ true → LowestAt τ e → Picks τ e
picks τ e r p l = picks_as τ e.before e.accepted e.does e.after r.asked r.did p l

-- ---- only passes and a fresh start touch the flag
relief-did : (τ : ℕ) (k : Kernel) (d : Doing) → Asked d k → is_pass d ≡ false → strikes? τ d k ≡ false → (effect d k).relief ≡ k.relief
relief-did τ k (starts word) a e s = false-true (sym s)
relief-did τ k (creates entry stack priority processor) a e s = create-relief k entry stack priority processor
relief-did τ k (passes tick) a e s = false-true (sym e)
relief-did τ k looks a e s = refl
relief-did τ k (ends t) a e s = end-relief k t
relief-did τ k (calls number r words tick) a e s = call-relief number k (given number r) words tick (sound-parts k a.0)
relief-did τ k collects a e s = collect-relief k

relief_as : (τ : ℕ) (k : Kernel) (a : Bool) (d : Doing) (m : Kernel) → (a ≡ false → m ≡ k) → (a ≡ true → Asked d k) → (a ≡ true → m ≡ effect d k) → a and is_pass d ≡ false → a and strikes? τ d k ≡ false
    → m.relief ≡ k.relief
unfolding ◌and◌
relief_as τ k false d m r q f e s = ap (λ (x : Kernel). x.relief) (r refl)
relief_as τ k true d m r q f e s = ap (λ (x : Kernel). x.relief) (f refl) ∙ relief-did τ k d (q refl) e s

-- ---- over every list
-- the pass after the one that left the flag
next-pass : (τ : ℕ) (f : Event) → Picks τ f → (k : Kernel) (es : List Event) → Course k es → k.relief ≡ f.after.relief → Spared τ es
    → AtNextPass (λ g. LowestAt τ g → RunsAt τ f ⊎ RunsAt τ g) es
next-pass τ f p k [] c r s = tt
next-pass τ f p k (e ∷ es) c r s =
    if_else (pass? e)
    (λ q l.
    let g = picks τ e c.1 q l in
    let same : e.before.relief ≡ (schedule f.before p.tick).kernel.relief = ap (λ (x : Kernel). x.relief) c.0 ∙ r ∙ ap (λ (x : Kernel). x.relief) p.after in
    elim (runs_in_two f.before e.before p.tick g.tick τ p.urgent g.urgent same) [
      | inl x ↦ inl (ap (λ (y : Kernel). y.current_thread) p.after ∙ x)
      | inr x ↦ inr (ap (λ (y : Kernel). y.current_thread) g.after ∙ x)
    ])
    (λ q. next-pass τ f p e.after es c.2
    (relief_as τ e.before e.accepted e.does e.after c.1.refused c.1.asked c.1.did q s.0 ∙ ap (λ (x : Kernel). x.relief) c.0 ∙ r) s.1)

pub in_two : (τ : ℕ) (k : Kernel) (es : List Event) → Course k es → Spared τ es → InTwo τ es
in_two τ k [] c s = tt
in_two τ k (e ∷ es) c s =
    if_else (pass? e and is_runnable (thread_at e.after.threads τ).status)
    (λ q l. next-pass τ e (picks τ e c.1 (and-true _ _ q).0 l) e.after es c.2 refl s.1)
    (λ q. in_two τ e.after es c.2 s.1)
