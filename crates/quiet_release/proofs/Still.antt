-- Whether any slot has a pulse waiting or a timer due, asked of each slot once. Assumes nothing.
use mathlib.Core.Path.{◌≡◌, refl, sym, ap, ◌∙◌}
use mathlib.Core.Bool.{Bool, true, false, not}
use mathlib.Core.List.{List, [], ◌∷◌}
use Prim.Native.Nat.{ℕ}
use Rattle.laws.specs.Logic.{◌and◌, ◌or◌}
use Rattle.types.specs.declared.object.Slot.{Slot}
use Rattle.kernel.specs.NextEvent.{due_of}
use Rattle.pass.specs.Signal.{any_pulsed}
use Rattle.pass.specs.Timers.{due_by, timer_due}

or_swap : (a x b y : Bool) → (a or x) or (b or y) ≡ (a or b) or (x or y)
unfolding ◌or◌
or_swap true x b y = refl
or_swap false true true y = refl
or_swap false true false y = refl
or_swap false false b y = refl

not-or : (a b : Bool) → not (a or b) ≡ not a and not b
unfolding ◌or◌ ◌and◌
not-or true b = refl
not-or false b = refl

module _ (tick : ℕ) where
  abbrev pub moves : Slot → Bool
  moves s = s.pulsed or due_by (due_of s.object) tick

  abbrev pub any_moves : List Slot → Bool
  any_moves l = any_pulsed l or timer_due tick l

  pub moves-none : any_moves [] ≡ false
  unfolding any_pulsed timer_due ◌or◌
  moves-none = refl

  pub moves_more : (s : Slot) (ss : List Slot) → any_moves (s ∷ ss) ≡ moves s or any_moves ss
  unfolding any_pulsed timer_due
  moves_more s ss = or_swap s.pulsed (any_pulsed ss) (due_by (due_of s.object) tick) (timer_due tick ss)

  pub still-no : (l : List Slot) → any_moves l ≡ true → false ≡ not (any_pulsed l) and not (timer_due tick l)
  still-no l e = sym (sym (not-or (any_pulsed l) (timer_due tick l)) ∙ ap not e)

  pub still-yes : (l : List Slot) → any_moves l ≡ false → true ≡ not (any_pulsed l) and not (timer_due tick l)
  still-yes l e = sym (sym (not-or (any_pulsed l) (timer_due tick l)) ∙ ap not e)
