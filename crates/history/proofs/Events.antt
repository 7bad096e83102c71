-- What holds of every operation.
use Rattle.std.specs.Prelude.{◌≡◌, refl, Bool, true, false, List, [], ◌∷◌, map, ℕ, ◌-◌, eqb, leb}
use Rattle.std.proofs.Common.{ap, subst, ◌∙◌, eqb-true}
use Rattle.laws.specs.Logic.{pick, ◌and◌}
use Rattle.codec.specs.Bytes.{num}
use Rattle.codec.specs.Layout.{dec_all}
use Rattle.block.specs.Block.{dec_block}
use Rattle.sound.specs.Question.{sound?}
use Rattle.sound.proofs.Question.{t_block}
use Rattle.svc.specs.declared.Registers.{Registers}
use Rattle.svc.specs.Table.{table, row_in, row_of}
use Rattle.svc.specs.Dispatch.{given}
use Rattle.demand.specs.Words.{calls}
use Rattle.course.specs.Course.{effect, Asked, Real, Course}
use Rattle.lent.specs.Lent.{Lent, lent, accepted?}
use Rattle.lent.specs.Guest.{words_in, dispatch}
use Rattle.history.specs.Step.{Op, op_fresh_start, op_next_event, op_create_thread, op_schedule, op_satisfied_now, op_quiet_release, op_end_thread, op_dispatch, op_collect, step, trace}
use Rattle.history.specs.Keeps.{Kept, fresh_keeps, next_event-keeps, create_thread-keeps, schedule-keeps, satisfied_now-keeps, quiet_release-keeps, end_thread-keeps}
use Rattle.history.specs.Guests.{dispatch-keeps, collect-keeps}
use Rattle.history.specs.Events.{registers_lent, words_lent, doing, event_of, entry, Done}

-- the call table hides neither r1 nor r2 where words are read
words-read : (base : ℕ) (window : List ℕ) (number : ℕ) (r : Registers) → words_in base window number (given number r) ≡ words_lent base window number r
unfolding dec_all row_of row_in table ◌and◌
words-read base window number r = go (eqb number 0x25) (eqb number 0x22) refl refl
  where
    at : ℕ → Bool → Bool → List ℕ
    at m p q = dec_all num 4 (pick p (given m r).r2 (pick (q and (leb 1 (given m r).r2 and leb (given m r).r2 4)) 1 0)) window ((given m r).r1 - base)

    go : (p q : Bool) → eqb number 0x25 ≡ p → eqb number 0x22 ≡ q
        → at number p q ≡ dec_all num 4 (pick p r.r2 (pick (q and (leb 1 r.r2 and leb r.r2 4)) 1 0)) window (r.r1 - base)
    go true q e f = ap (λ (m : ℕ). at m true q) (eqb-true number 0x25 e)
    go false true e f = ap (λ (m : ℕ). at m false true) (eqb-true number 0x22 f)
    go false false e f = refl

pub done : (op : Op) (b : List ℕ) → Done (doing op) b (step op b)
unfolding step
done (op_fresh_start bank u word h) b = record { with = _; block = refl; kept = fresh_keeps word h (lent b bank [] [] []) }
done (op_next_event answer u) b = record { with = _; block = refl; kept = next_event-keeps (lent b [] [] [] answer) }
done (op_create_thread bank u answer v entry e stack s arg a priority p processor q) b =
    record { with = _; block = refl; kept = create_thread-keeps entry stack arg priority processor e s q (lent b bank [] [] answer) }
done (op_schedule bank u processor p answer v tick h) b = record { with = _; block = refl; kept = schedule-keeps tick h (lent b bank processor [] answer) }
done (op_satisfied_now handles w answer u all h tick t) b = record { with = _; block = refl; kept = satisfied_now-keeps handles all tick (lent b [] [] [] answer) }
done (op_quiet_release answer u handle h tick t) b = record { with = _; block = refl; kept = quiet_release-keeps handle tick (lent b [] [] [] answer) }
done (op_end_thread thread h) b = record { with = _; block = refl; kept = end_thread-keeps thread (lent b [] [] [] []) }
done (op_dispatch bank u processor p window w base x number n tick t) b =
    let l : Lent = lent b bank processor window [] in
    let r : Registers = registers_lent processor in
    record {
      with = l;
      block = refl;
      kept = subst (λ (x : List ℕ). Kept (calls number r x tick) l (dispatch base number tick l)) (words-read base window number r) (dispatch-keeps base number tick t l p);
    }
done (op_collect answer u) b = record { with = _; block = refl; kept = collect-keeps (lent b [] [] [] answer) }

module _ (op : Op) (b : List ℕ) where
  pub sound-after : accepted? (step op b).number ≡ true → sound? (step op b).after.block ≡ true
  sound-after e = (done op b).kept.sound e

  pub block-left : accepted? (step op b).number ≡ false → (step op b).after.block ≡ b
  block-left e = ap (λ l. l.block) ((done op b).kept.same e) ∙ (done op b).block

  pub real : Real (event_of (entry op b))
  real = record {
    refused = λ e. ap dec_block (block-left e);
    asked = λ e. subst (λ (x : List ℕ). Asked (doing op) (dec_block x)) (done op b).block ((done op b).kept.asked e);
    did = λ e. (done op b).kept.did e ∙ ap (λ (x : List ℕ). effect (doing op) (dec_block x)) (done op b).block;
    sound = λ e. ((t_block (step op b).after.block).yes (sound-after e)).state;
  }

pub course : (ops : List Op) (b : List ℕ) → Course (dec_block b) (map event_of (trace ops b))
unfolding trace
course [] b = tt
course (op ∷ ops) b = (refl, real op b, course ops (step op b).after.block)
