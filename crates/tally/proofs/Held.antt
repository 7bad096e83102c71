-- The TLS slots of live threads, counted thread by thread. Assumes nothing.
use mathlib.Core.Path.{◌≡◌, refl, ap, ◌∙◌}
use mathlib.Core.Bool.{Bool, true, false}
use mathlib.Core.List.{List, []}
use Prim.Native.Nat.{ℕ, ◌+◌, ◌<◌}
use lib.ListN.{length, get_or, drop}
use Rattle.laws.specs.Tally.{tally}
use Rattle.types.specs.declared.thread.Thread.{Thread}
use Rattle.types.specs.Thread.{is_dead}
use Rattle.sound.specs.View.{no_thread}
use Rattle.sound.specs.Tls.{held_if, held, held-step}
use Rattle.tally.specs.Lists.{slot_of}

tally_if : (n : ℕ) (c : List ℕ) (b : Bool) (s : ℕ) (l : List ℕ) → tally n c (held_if b s l) ≡ tally n (tally n c (held_if b s [])) l
unfolding tally
tally_if n c true s l = refl
tally_if n c false s l = refl

pub tally-held : (ts : List Thread) (i : ℕ) → i < length ts → (n : ℕ) (c : List ℕ)
    → tally n c (held (drop i ts)) ≡ tally n (tally n c (slot_of (get_or ts i no_thread))) (held (drop (i + 1) ts))
tally-held ts i h n c =
    ap (tally n c) (held-step ts i h) ∙ tally_if n c (is_dead (get_or ts i no_thread).status) (get_or ts i no_thread).tls (held (drop (i + 1) ts))
