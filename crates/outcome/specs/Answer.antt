-- The numbers of answers.
use Rattle.std.specs.Prelude.{ℕ}
use Rattle.outcome.specs.declared.Answer.{Answer}
use Rattle.outcome.specs.declared.Answer.TheVariants.{Done, UnknownHandle, TimedOut, UnknownKind}

abbrev pub answer_number : Answer → ℕ
answer_number Done = 0
answer_number UnknownHandle = 16
answer_number TimedOut = 17
answer_number UnknownKind = 18
