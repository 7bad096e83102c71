use Rattle.std.specs.Prelude.{Option, Result, Ok}
use Rattle.types.specs.declared.refusal.Refusal.{Refusal}
use Rattle.types.specs.Refusal.{refusal_number, refusal-some, found_in, unless-ok}
use mathlib.Core.Path.{◌≡◌, refl, ap, sym, subst, ◌∙◌}
use mathlib.Core.Bool.{true}
use mathlib.Core.List.{List, []}
use Prim.Native.Nat.{ℕ}
use lib.ListN.{length, take}
use borrow.Author.Tests.{eq-eqb}
use Rattle.laws.specs.Logic.{true-and}
use Rattle.types.specs.declared.kernel.Kernel.{Kernel}
use Rattle.block.specs.Block.{enc_block, dec_block}
use Rattle.svc.specs.declared.Registers.{Registers}
use Rattle.svc.specs.declared.Served.{Served}
use Rattle.svc.specs.Dispatch.{given, refusal, call}
use Rattle.guest.specs.declared.bank.Made.{Made}
use Rattle.guest.specs.Word.{word_fits, word_fits_lem, asked}
use Rattle.guest.specs.Made.{bank_made, bank-made}
use Rattle.std.proofs.lemmas.Result.{err_from_is_err_and}
use Rattle.guest_call.specs.Made.{call-made}
use Rattle.guest_call.specs.Answered.{found-refusal}
use Rattle.outcome.specs.declared.Outcome.{Outcome}
use Rattle.outcome.specs.Outcome.{accepted, found-is, outcome-0, left-0, left-found}
use Rattle.lent.specs.Lent.{Lent, lent, Back, back}
use Rattle.lent.specs.Operations.{finding}
use Rattle.lent.specs.Guest.{registers, words_in, served, served_written}
use Rattle.lent.specs.Guest as guest
use Rattle.lent.proofs.Cases.{change-own, change-found, change-0, nothing-full}
use Rattle.guest_call.proofs.work.Goals as goal

same_value : {x y : Outcome} → ◌≡◌ {A = Result Outcome Refusal} (Ok x) (Ok y) → x ≡ y
same_value e = cc

abbrev refused : ℕ → ℕ → Lent → Kernel → ℕ
refused base number l = refusal base (length l.window) number (given number (registers l.processor))

abbrev work : ℕ → ℕ → ℕ → Lent → Kernel → Kernel
work base number tick l = λ k. (served base number tick l k).kernel

abbrev result : ℕ → ℕ → ℕ → Lent → Kernel → Back
result base number tick l = λ k. back (served base number tick l k).answer (served_written base number l k (served base number tick l k))

pub returns-in_err-allowed : goal.returns-in_err-allowed
unfolding guest.dispatch
returns-in_err-allowed c = let a = c.args in
    let l = lent a.block.now a.bank.now a.processor.now a.window.now [] in
    let k = dec_block a.block.now in
    let r = c.registers_for-r.result in
    let q : refusal a.window_base (length a.window.now) a.number r k ≡ refused a.window_base a.number l k =
    ap (λ (x : Registers). refusal a.window_base (length a.window.now) a.number x k) c.registers_for-r.ensures in
    let e = found-refusal a.window_base (length a.window.now) a.number r k in
    let n : refusal_number c.in_err-allowed.field-0.0 ≡ refused a.window_base a.number l k = ap found_in (sym c.in_err-allowed.was ∙ c.allowed.ensures) ∙ e ∙ q in
    let p = err_from_is_err_and c.from_residual.result c.from_residual.ensures.1 in
    rw (p.1, p.2) (change-own _ (refused a.window_base a.number l) (work a.window_base a.number a.tick.0 l) (result a.window_base a.number a.tick.0 l) l (true-and _ _ (eq-eqb _ 16384 c.told-block) (true-and _ _ (eq-eqb _ 6656 c.told-bank) (true-and _ _ (eq-eqb _ 208 c.told-processor) (sym c.window_ok.ensures ∙ c.if-not-window_ok.false)))) (dec_block a.block.now) refl _ c.block_ok.ensures (c.if-not-block_ok.false) _ n (refusal-some _))

pub words_in-words-requires : goal.words_in-words-requires
words_in-words-requires c = let a = c.args in
    let l = lent a.block.now a.bank.now a.processor.now a.window.now [] in
    let k = dec_block a.block.now in
    let r = c.registers_for-r.result in
    let w = asked a.window_base (length a.window.now) a.number r k (unless-ok _ tt _ (sym c.allowed.ensures ∙ c.in_ok-allowed.was)) in
    record { n_value = c.words_read-n.ensures; r_value = w.0; r_value_2 = w.1 }

pub returns-in_err-o : goal.returns-in_err-o
unfolding guest.dispatch
returns-in_err-o c = let a = c.args in
    let l = lent a.block.now a.bank.now a.processor.now a.window.now [] in
    let k = dec_block a.block.now in
    let r = c.registers_for-r.result in
    let ws : List ℕ = take c.words_read-n.result c.words_in-words.result in
    let q : refusal a.window_base (length a.window.now) a.number r k ≡ refused a.window_base a.number l k =
    ap (λ (x : Registers). refusal a.window_base (length a.window.now) a.number x k) c.registers_for-r.ensures in
    let s : call a.number k r ws a.tick.0 ≡ served a.window_base a.number a.tick.0 l k =
    ap (λ (x : List ℕ). call a.number k r x a.tick.0) c.words_in-words.ensures ∙ ap (λ (x : Registers). call a.number k x (words_in a.window_base a.window.now a.number x) a.tick.0) c.registers_for-r.ensures in
    let f : refusal_number c.in_err-o.field-0.0 ≡ finding (served a.window_base a.number a.tick.0 l k).kernel = ap found_in (sym c.in_err-o.was ∙ c.call.ensures.value) ∙ found-is (call a.number k r ws a.tick.0) ∙ ap (λ (x : Served). finding x.kernel) s in
    let e = c.call.ensures.block_after ∙ left-found (call a.number k r ws a.tick.0) a.block.now (λ z. refusal-some _ (f ∙ ap (λ (x : Served). finding x.kernel) (sym s) ∙ z)) in
    let p = err_from_is_err_and c.from_residual-in_err-o.result c.from_residual-in_err-o.ensures.1 in
    rw (p.1, p.2, e) (change-found _ (refused a.window_base a.number l) (work a.window_base a.number a.tick.0 l) (result a.window_base a.number a.tick.0 l) l (true-and _ _ (eq-eqb _ 16384 c.told-block) (true-and _ _ (eq-eqb _ 6656 c.told-bank) (true-and _ _ (eq-eqb _ 208 c.told-processor) (sym c.window_ok.ensures ∙ c.if-not-window_ok.false)))) (dec_block a.block.now) refl _ c.block_ok.ensures (c.if-not-block_ok.false) _ q (unless-ok _ tt _ (sym c.allowed.ensures ∙ c.in_ok-allowed.was)) _ f (refusal-some _))

pub put_bank-requires : goal.put_bank-requires
put_bank-requires c = let a = c.args in
    let l = lent a.block.now a.bank.now a.processor.now a.window.now [] in
    let k = dec_block a.block.now in
    let r = c.registers_for-r.result in
    let ws : List ℕ = take c.words_read-n.result c.words_in-words.result in record { id_bound = rw c.made_by-made.ensures (call-made a.number k r ws a.tick.0 (nothing-full (call a.number k r ws a.tick.0).kernel (sym (found-is (call a.number k r ws a.tick.0)) ∙ ap found_in (sym c.call.ensures.value ∙ c.in_ok-o.was)))) }

pub put_word-requires : goal.put_word-requires
put_word-requires c = let a = c.args in
    let l = lent a.block.now a.bank.now a.processor.now a.window.now [] in
    let k = dec_block a.block.now in
    let r = c.registers_for-r.result in
    let ws : List ℕ = take c.words_read-n.result c.words_in-words.result in
    subst (λ (x : Outcome). word_fits a.window_base (length a.window.now) r.r1 x.word ≡ true) (same_value (sym (outcome-0 (call a.number k r ws a.tick.0) (sym (found-is (call a.number k r ws a.tick.0)) ∙ ap found_in (sym c.call.ensures.value ∙ c.in_ok-o.was))) ∙ sym c.call.ensures.value ∙ c.in_ok-o.was))
    (word_fits_lem a.window_base (length a.window.now) a.number k r ws a.tick.0 (asked a.window_base (length a.window.now) a.number r k (unless-ok _ tt _ (sym c.allowed.ensures ∙ c.in_ok-allowed.was))).1)

pub returns : goal.returns
unfolding guest.dispatch
returns c = let a = c.args in
    let l = lent a.block.now a.bank.now a.processor.now a.window.now [] in
    let k = dec_block a.block.now in
    let r = c.registers_for-r.result in
    let ws : List ℕ = take c.words_read-n.result c.words_in-words.result in
    let q : refusal a.window_base (length a.window.now) a.number r k ≡ refused a.window_base a.number l k =
    ap (λ (x : Registers). refusal a.window_base (length a.window.now) a.number x k) c.registers_for-r.ensures in
    let s : call a.number k r ws a.tick.0 ≡ served a.window_base a.number a.tick.0 l k =
    ap (λ (x : List ℕ). call a.number k r x a.tick.0) c.words_in-words.ensures ∙ ap (λ (x : Registers). call a.number k x (words_in a.window_base a.window.now a.number x) a.tick.0) c.registers_for-r.ensures in
    let z = (sym (found-is (call a.number k r ws a.tick.0)) ∙ ap found_in (sym c.call.ensures.value ∙ c.in_ok-o.was)) in
    let z' : finding (served a.window_base a.number a.tick.0 l k).kernel ≡ 0 = ap (λ (x : Served). finding x.kernel) (sym s) ∙ z in
    let o : c.in_ok-o.o ≡ accepted (served a.window_base a.number a.tick.0 l k) = same_value (sym c.in_ok-o.was ∙ c.call.ensures.value ∙ outcome-0 (call a.number k r ws a.tick.0) z) ∙ ap accepted s in
    let e = c.call.ensures.block_after ∙ left-0 (call a.number k r ws a.tick.0) a.block.now z ∙ ap (λ (x : Served). enc_block x.kernel) s in
    let m = c.put_bank.ensures ∙ ap (λ (x : Option Made). bank_made a.bank.now x r) c.made_by-made.ensures ∙ bank-made a.number a.bank.now k r in
    rw (e, m, c.put_registers.ensures, c.put_word.ensures, o, c.registers_for-r.ensures)
    (change-0 _ (refused a.window_base a.number l) (work a.window_base a.number a.tick.0 l) (result a.window_base a.number a.tick.0 l) l (true-and _ _ (eq-eqb _ 16384 c.told-block) (true-and _ _ (eq-eqb _ 6656 c.told-bank) (true-and _ _ (eq-eqb _ 208 c.told-processor) (sym c.window_ok.ensures ∙ c.if-not-window_ok.false)))) (dec_block a.block.now) refl _ c.block_ok.ensures (c.if-not-block_ok.false) _ q (unless-ok _ tt _ (sym c.allowed.ensures ∙ c.in_ok-allowed.was)) 0 (sym z') refl)
