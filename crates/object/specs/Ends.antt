-- The records with the ends of a walk beside them.
use Rattle.std.specs.Prelude.{Bool, false, not, List, ℕ, eqb, Option, None, Some}
use Rattle.laws.specs.Walk.{walk}
use Rattle.types.specs.declared.object.Waiter.{Waiter}
use Rattle.sound.specs.View.{waiter_nexts}
use Rattle.object.specs.declared.waiters.Links.{Links}
use Rattle.object.specs.declared.waiters.Ends.{Ends}
use Rattle.object.specs.Waiters.{waiter_at, unlink}

abbrev pub links : List Waiter → Ends → Links
links ws e = record { waiters = ws; free = e.free; head = e.head }

-- whether a record of thread x stays when those of a thread go, or all
abbrev pub kept : Option ℕ → ℕ → Bool
kept None x = false
kept (Some t) x = not (eqb x t)

-- the chain from h without the records of a thread, or without all of them
abbrev pub unlink_from : Option ℕ → List Waiter → ℕ → ℕ → ℕ → Links
unlink_from thread ws h left free = unlink (λ x. kept thread (waiter_at ws x).thread) ws free
    (walk (waiter_nexts ws) left h)
