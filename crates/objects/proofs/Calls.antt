-- A call that opens a handle in the state k and goes on from there. v is what it leaves; it finds what opening the handle found. Assumes nothing.
use Rattle.std.specs.Prelude.{Result, Ok, Err}
use mathlib.Core.Path.{◌≡◌, sym, ap, subst, ◌∙◌}
use mathlib.Core.List.{List}
use Prim.Native.Nat.{ℕ}
use Rattle.types.specs.declared.kernel.Kernel.{Kernel}
use Rattle.svc.specs.declared.Served.{Served}
use Rattle.svc.specs.Call.{with_objects, resolved}
use Rattle.lent.specs.Operations.{finding}
use Rattle.rows.specs.Holds.{Holds}
use Rattle.outcome.specs.declared.Outcome.{Outcome}
use Rattle.outcome.specs.Outcome.{outcome, left, accepted, outcome-0, outcome-found, left-0, left-found}
use Rattle.units.specs.declared.ObjectId.{ObjectId}
use Rattle.types.specs.declared.refusal.Refusal.{Refusal}
use Rattle.types.specs.Refusal.{refusal_number, refusal-some, found_in}
use Rattle.objects.specs.Open.{Opens}

module _ (b : List ℕ) {k : Kernel} (h : ℕ) (e : List ℕ) (o : Result ObjectId Refusal) (p : Opens k (resolved k h) b e o) (v : Served)
    (f : finding v.kernel ≡ finding (with_objects k (resolved k h).store)) where
  pub refused-call : (r : Refusal) → o ≡ Err r → (Err r ≡ outcome v) × (e ≡ left v b)
  refused-call r q =
      let n : finding v.kernel ≡ refusal_number r = f ∙ sym p.found ∙ ap found_in q in
      (sym (outcome-found v r n), p.same (λ z. refusal-some r (sym (ap found_in q) ∙ z)) ∙ sym (left-found v b (λ w. refusal-some r (sym n ∙ w))))

  pub accepted-call : found_in o ≡ 0 → (w : Served) → w ≡ v → (a : Outcome) → a ≡ accepted w → (d : List ℕ) → Holds d w.kernel → (Ok a ≡ outcome v) × (d ≡ left v b)
  accepted-call z w u a q d r =
      let g = f ∙ sym p.found ∙ z in
      (ap Ok (q ∙ ap accepted u) ∙ sym (outcome-0 v g), (subst (λ (x : Served). Holds d x.kernel) u r).same ∙ sym (left-0 v b g))
