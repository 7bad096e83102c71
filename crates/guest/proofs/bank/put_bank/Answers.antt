use Rattle.guest.proofs.bank.put_bank.Goals as goal

pub returns-in-Some : goal.returns-in-Some
returns-in-Some c = rw (c.in-Some.is, c.put_row.ensures, c.new_context-context.ensures)
