use Rattle.std.proofs.Common.{◌≡◌, true, false, [], arith, ap, ◌∙◌}
use Rattle.codec.specs.Bytes.{same}
use Rattle.block.specs.Thread.{thread_words, words_list, thread_of, dec_thread}
use Rattle.canonical.specs.Parts.{thread-parts}
use Rattle.canonical.proofs.Tests.{tests}
use Rattle.canonical.proofs.Words.{words_eq, words_test}
use Rattle.canonical.proofs.thread.ThreadCanonical.canonical.Goals as goal

-- The words as those of the thread that they say, whatever its list, then what is spare.

pub returns-then-eq : goal.returns-then-eq
unfolding dec_thread
returns-then-eq c =
    let P = thread-parts c.args.s.now (λ j. omega (arith, c.type_inv.s j)) c.requires in
    let w = c.get_words-w.ensures in
    let o = ap words_list (c.thread_words.ensures ∙ ap thread_words c.thread_of-t.ensures) ∙ (λ i. words_list (thread_words (thread_of (w i) []))) in
    let q : true ≡ words_eq c.get_words-w.result c.thread_words.result = c.if-eq.ensures in
    let e = q ∙ words_test _ _ ∙ (λ i. same (w i) (o i)) in
    grind (arith, tests, P, e)

pub returns-else-eq : goal.returns-else-eq
unfolding dec_thread
returns-else-eq c =
    let P = thread-parts c.args.s.now (λ j. omega (arith, c.type_inv.s j)) c.requires in
    let w = c.get_words-w.ensures in
    let o = ap words_list (c.thread_words.ensures ∙ ap thread_words c.thread_of-t.ensures) ∙ (λ i. words_list (thread_words (thread_of (w i) []))) in
    let q : false ≡ words_eq c.get_words-w.result c.thread_words.result = c.if-eq.ensures in
    let e = q ∙ words_test _ _ ∙ (λ i. same (w i) (o i)) in
    grind (arith, tests, P, e)
