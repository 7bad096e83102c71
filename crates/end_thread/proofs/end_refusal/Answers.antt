use Rattle.std.proofs.Common.{sym, ap, subst, lt-ltb, le-ltb, ◌∙◌}
use Rattle.std.specs.Prelude.{ℕ, ◌≡◌, ◌≤◌, ◌<◌}
use Rattle.laws.specs.Logic.{pick_yes, pick_no}
use Rattle.codec.specs.Layout.{dec_as}
use Rattle.types.specs.Refusal.{unless_found}
use Rattle.types.specs.declared.thread.Thread.{Thread}
use Rattle.types.specs.Thread.{is_dead}
use Rattle.block.specs.Block.{dec_block}
use Rattle.lent.specs.Operations.{end_refusal}
use Rattle.end_thread.proofs.Place.{far-dead}
use Rattle.end_thread.proofs.end_refusal.Goals as goal
use Rattle.end_thread.proofs.end_refusal.Goals.{then-get32-t-via-then-get32-t, then-get32-t-via-else-get32-t+then-t-ge32}

pub returns-then-get32-t : goal.returns-then-get32-t
unfolding end_refusal dec_block dec_as
returns-then-get32-t c =
    let b = c.args.block.now in
    let k = dec_block b in
    let t = c.args.t in
    let e : end_refusal t k ≡ 4 = elim c.then-get32-t.branch [
      | then-get32-t-via-then-get32-t w ↦ pick_no _ _ _ (le-ltb t k.thread_count (subst (λ n. n ≤ t) c.get32.ensures w.if-get32-t.true))
      | then-get32-t-via-else-get32-t+then-t-ge32 w ↦
          pick_yes _ _ _ (lt-ltb t k.thread_count (subst (λ n. t < n) c.get32.ensures w.if-get32-t.false)) ∙ pick_yes _ _ _ (far-dead b t w.if-t-ge32.true)
    ] in
    ap (λ (n : ℕ). unless_found n tt) (sym e)

pub returns-then-is_dead : goal.returns-then-is_dead
unfolding end_refusal dec_block dec_as
returns-then-is_dead c =
    let b = c.args.block.now in
    let k = dec_block b in
    let t = c.args.t in
    let n : t < k.thread_count = subst (λ n. t < n) c.get32.ensures c.if-get32-t.false in
    let d = sym (ap (λ (x : Thread). is_dead x.status) c.thread_at.ensures) ∙ sym c.is_dead.ensures ∙ c.if-is_dead.true in
    let e : end_refusal t k ≡ 4 = pick_yes _ _ _ (lt-ltb t k.thread_count n) ∙ pick_yes _ _ _ d in
    ap (λ (n : ℕ). unless_found n tt) (sym e)

pub returns : goal.returns
unfolding end_refusal dec_block dec_as
returns c =
    let b = c.args.block.now in
    let k = dec_block b in
    let t = c.args.t in
    let n : t < k.thread_count = subst (λ n. t < n) c.get32.ensures c.if-get32-t.false in
    let d = sym (ap (λ (x : Thread). is_dead x.status) c.thread_at.ensures) ∙ sym c.is_dead.ensures ∙ c.if-is_dead.false in
    let e : end_refusal t k ≡ 0 = pick_yes _ _ _ (lt-ltb t k.thread_count n) ∙ pick_no _ _ _ d in
    ap (λ (n : ℕ). unless_found n tt) (sym e)
