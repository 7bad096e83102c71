-- The head after a pass, of which the tries have written what they change.
use Rattle.std.specs.Prelude.{Bool, Option, ℕ}
use mir.Val.{bool_byte}
use Rattle.types.specs.Thread.{option_flag, option_value}
use Rattle.block.specs.declared.Head.{Head}
use Rattle.pass.specs.Schedule.{is_none}

abbrev pub head_after : Head → Option ℕ → Bool → Head
head_after h next relief = record h {
  current_flag = option_flag next;
  current_value = option_value next;
  all_blocked = bool_byte (is_none next);
  relief = bool_byte relief;
}
