-- Where the record of a thread that parks goes. Assumes nothing.
use Rattle.std.specs.Prelude.{Bool, not, ℕ, Option, Some, None}
use Rattle.laws.specs.Logic.{pick, ◌and◌}
use Rattle.types.specs.declared.object.ObjectStore.{ObjectStore}
use Rattle.sound.specs.View.{object_at, waiter_threads, waiter_addresses}
use Rattle.sound.specs.Records.{chain_of, has?}
use Rattle.object.specs.Waiters.{is_arbiter, last_of}

-- the object is an arbiter, and has no record of the thread for the address
abbrev pub stores : ObjectStore → ℕ → ℕ → ℕ → Bool
stores s o t a = is_arbiter (object_at s o) and not (has? (waiter_threads s.waiters) (waiter_addresses s.waiters) t a (chain_of s o))

-- behind the last record of the object's chain
abbrev pub place_for : ObjectStore → ℕ → ℕ → ℕ → Option ℕ
place_for s o t a = pick (stores s o t a) (Some (last_of (chain_of s o))) None
