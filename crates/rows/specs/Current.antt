-- The current thread, as a number and a flag; that of a sound block has a place. Assumes nothing.
use Rattle.std.specs.Prelude.{◌≡◌, refl, true, List, ◌≢◌, ℕ, ◌≤◌, ◌<◌, Option, Some, None}
use Rattle.std.proofs.Common.{subst, arith}
use Rattle.types.specs.Thread.{option_flag, option_value}
use Rattle.block.specs.Block.{dec_block}
use Rattle.sound.specs.Threads.{CurrentOk}
use Rattle.sound.specs.Question.{sound?}
use Rattle.sound.proofs.Question.{t_block}

pub some-thread : (c : Option ℕ) → option_flag c ≢ 0 → c ≡ Some (option_value c)
some-thread None z = absurd (z refl)
some-thread (Some t) z = refl

pub no-thread : (c : Option ℕ) → option_flag c ≡ 0 → c ≡ None
no-thread None z = refl
no-thread (Some t) z = absurd (omega arith)

place_of : (t : Option ℕ) (n c : ℕ) → t ≡ Some c → CurrentOk t n → n ≤ 32 → c < 32
place_of t n c e h m = let w : c < n = subst (λ (z : Option ℕ). CurrentOk z n) e h in omega arith

pub current-place : (b : List ℕ) → sound? b ≡ true → (c : ℕ) → (dec_block b).current_thread ≡ Some c → c < 32
current-place b s c e = let t = ((t_block b).yes s).state.threads in place_of _ (dec_block b).thread_count c e t.current t.many
