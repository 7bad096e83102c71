use mathlib.Core.Path.{◌≡◌, sym, ap}
use Rattle.block.specs.Block.{dec_block}
use Rattle.object.specs.Ends.{links}
use Rattle.release.specs.Encoded.{encoded-holds}
use Rattle.release.proofs.Released.{links_of, no-records, waiters_are, put-records}
use Rattle.release.proofs.free_records.Goals as goal

pub returns-then-first-eq0 : goal.returns-then-first-eq0
returns-then-first-eq0 c = let b = c.args.block.now in
    let e = no-records (dec_block b).objects c.args.first c.args.free c.if-first-eq0.true in
    record { value = sym (ap (λ u. u.free) e); holds = rw e (encoded-holds b c.requires.encoded) }

pub returns : goal.returns
returns c = let b = c.args.block.now in
    let l = links c.unlink-u.new.ws c.unlink-u.result in
    let u : l ≡ links_of (dec_block b).objects c.args.first c.args.free = rw (c.read_all-ws.ensures, waiters_are b) at c.unlink-u.ensures in
    record { value = ap (λ z. z.free) u; holds = rw c.write_all.ensures.b_after (put-records b c.requires.encoded c.args.first c.args.free l u c.write_all.ensures.l_len) }
