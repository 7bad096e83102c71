use Rattle.std.specs.Prelude.{Option, Some}
use mathlib.Core.Path.{◌≡◌, ap, sym, ◌∙◌}
use borrow.Author.Tests.{lt-ltb, le-ltb}
use Rattle.types.specs.declared.object.KObject.{KObject}
use Rattle.types.specs.declared.object.KObject.TheVariants.{Mutex}
use Rattle.block.specs.Block.{dec_block}
use Rattle.pass.specs.declared.Release.{Release}
use Rattle.pass.specs.declared.Release.TheVariants.{CountsDown}
use Rattle.pass.specs.Asks.{release_as}
use Rattle.quiet_release.proofs.Calm.{release-is, not_mutex}
use Rattle.quiet_release.proofs.quiet.quiet_release.Goals as goal

pub returns-in_default : goal.returns-in_default
returns-in_default c =
    let a = c.args in
    let o = c.open_object-o in
    let x = c.slot_at in
    not_mutex x.result.object (dec_block a.b.now) o.result.0 a.tick.0 c.in_default.not-Mutex
    ∙ release-is (dec_block a.b.now) a.h.0 a.tick.0 o.result.0 x.result o.ensures x.ensures

pub returns-then-m-gt1 : goal.returns-then-m-gt1
returns-then-m-gt1 c =
    let a = c.args in
    let k = dec_block a.b.now in
    let o = c.open_object-o in
    let x = c.slot_at in
    let e : ◌≡◌ {A = Option Release} (Some (CountsDown o.result)) (release_as (Mutex c.in-Mutex.m) k o.result.0 a.tick.0) = rw (lt-ltb _ _ c.if-m-gt1.true) in
    e ∙ ap (λ (y : KObject). release_as y k o.result.0 a.tick.0) (sym c.in-Mutex.is) ∙ release-is k a.h.0 a.tick.0 o.result.0 x.result o.ensures x.ensures

pub returns : goal.returns
returns c =
    let a = c.args in
    let k = dec_block a.b.now in
    let o = c.open_object-o in
    let x = c.slot_at in
    let e : c.frees_quietly.result ≡ release_as (Mutex c.in-Mutex.m) k o.result.0 a.tick.0 = rw (le-ltb _ _ c.if-m-gt1.false) c.frees_quietly.ensures in
    e ∙ ap (λ (y : KObject). release_as y k o.result.0 a.tick.0) (sym c.in-Mutex.is) ∙ release-is k a.h.0 a.tick.0 o.result.0 x.result o.ensures x.ensures
