-- What a wait on a list of handles finds: the objects, unused places 0, and the index.
use Rattle.std.specs.Prelude.{◌≡◌, refl, Bool, List, ℕ, ◌≤◌, length, take, Option, Some, None}
use Rattle.std.proofs.Common.{ap, sym, ◌∙◌, arith}
use Rattle.laws.specs.Logic.{pick}
use Rattle.units.specs.declared.ObjectId.{ObjectId}
use Rattle.types.specs.declared.kernel.Kernel.{Kernel}
use Rattle.sound.specs.View.{ids}
use Rattle.kernel.specs.NextEvent.{contains}
use Rattle.pass.specs.declared.Satisfied.{Satisfied}
use Rattle.pass.specs.Waits.{satisfied_at}
use Rattle.pass.specs.Asks.{wait_at_once, unsatisfied, padded, found_as, satisfied_for}
use Rattle.pass.specs.Padded.{padded-first}

abbrev pub found_in : Option ℕ → List ObjectId → Satisfied
found_in None l = unsatisfied
found_in (Some i) l = record { objects = l; index = Some i }

abbrev pub satisfied_in : Kernel → ℕ → List ObjectId → ℕ → Bool → Satisfied
satisfied_in k c l n all = pick (contains (take n (ids l)) 0) unsatisfied (found_in (satisfied_at k.threads k.objects c all (take n (ids l))) l)

found-is : (o : Option ℕ) (os : List ℕ) → found_in o (padded wait_at_once os) ≡ found_as o os
found-is None os = refl
found-is (Some i) os = refl

pub satisfied-is : (k : Kernel) (c n : ℕ) (os : List ℕ) (all : Bool) → length os ≡ n → n ≤ wait_at_once → satisfied_in k c (padded wait_at_once os) n all ≡ satisfied_for k c os all
satisfied-is k c n os all e h =
    let f : take n (ids (padded wait_at_once os)) ≡ os = ap (λ m. take m (ids (padded wait_at_once os))) (sym e) ∙ padded-first wait_at_once os (omega arith) in
    rw f (ap (λ x. pick (contains os 0) unsatisfied x) (found-is (satisfied_at k.threads k.objects c all os) os))
