-- Each part of a block compared with the encoding of what it decodes to: which of its words are looked at. Assumes nothing.
use Rattle.std.specs.Prelude.{◌≡◌, refl, Bool, true, false, ◌≢◌, List, [], ◌∷◌, ◌++◌, ℕ, ◌<◌, ◌*◌, eqb, ltb, length}
use Rattle.std.specs.Prelude.{take, drop, replicate}
use Rattle.std.proofs.Common.{sym, ap, ◌∙◌, append-nil, arith, length-drop, take_all, eqb-true, eq-eqb, ne_eqb}
use mir.Val.{bool_byte}
use Rattle.std.proofs.lemmas.Bool.{eqb-false}
use Rattle.laws.specs.Logic.{◌and◌, and_no, and_yes, and-end, and-false, and_assoc}
use Rattle.laws.specs.Test.{t_same, t_as, t-eq, t-lt}
use Rattle.codec.specs.Bytes.{bytes, same, le}
use Rattle.codec.specs.Layout.{enc_as, dec_as, enc_all}
use Rattle.codec.proofs.Back.{Fit, Bytes, enc_as_dec}
use Rattle.codec.proofs.Fit.{length-dec_all, word-whole, part_join}
use Rattle.codec.proofs.Rows.{length-enc_as}
use Rattle.codec.proofs.Same.{length_part, same_append, same-cut, same_fields}
use Rattle.types.specs.declared.kernel.Kernel.{Kernel}
use Rattle.types.specs.Thread.{wait_list, option_flag, option_value, option_of}
use Rattle.block.specs.declared.slot.ObjectWords.{ObjectWords}
use Rattle.block.specs.declared.Head.{Head}
use Rattle.block.specs.Table.{enc_entry, dec_entry, enc_waiter, dec_waiter, enc_id, dec_id}
use Rattle.block.specs.Slot.{object_words, object_of, slot_w, slot_words, slot_list, slot_fields, enc_slot, dec_slot}
use Rattle.block.specs.Thread.{spare_at, spare_bytes, thread_words, words_list, thread_w, enc_thread, dec_thread}
use Rattle.block.specs.Block.{head_words, enc_head, enc_block, dec_block}
use Rattle.block.proofs.Sizes.{length-enc_id, length-enc_entry, length-enc_waiter, length-enc_slot, length-enc_thread, length-enc_head}
use Rattle.block.proofs.Row.{length-all}
use Rattle.block.proofs.Fits.{entry_w, entry_as, waiter_w, waiter_as, slot_as, slot-fits, thread_as, thread-fits, block-fits}
use Rattle.canonical.specs.Rows.{rows?, rows_all}

abbrev pub object_list : ObjectWords → List ℕ
object_list w = w.kind ∷ w.a ∷ w.b ∷ w.c ∷ w.x ∷ w.y ∷ []

-- a flag and a value, as those of the option that they say
abbrev pub option? : ℕ → ℕ → Bool
option? f v = same (f ∷ v ∷ []) (option_flag (option_of f v) ∷ option_value (option_of f v) ∷ [])

-- ---- words one after the other
pub same-no : (m n : ℕ) (xs ys : List ℕ) → m ≢ n → same (m ∷ xs) (n ∷ ys) ≡ false
unfolding same
same-no m n xs ys d = and_no _ _ (ne_eqb m n d)

pub same-on : (m n : ℕ) (xs ys : List ℕ) → m ≡ n → same (m ∷ xs) (n ∷ ys) ≡ same xs ys
unfolding same
same-on m n xs ys e = and_yes _ _ (eq-eqb m n e)

pub same-last : (m n : ℕ) → eqb m n ≡ same (m ∷ []) (n ∷ [])
unfolding same
same-last m n = sym (and-end (eqb m n))

-- ---- words that say themselves, and flags
same_word : (n : ℕ) → eqb n n ≡ true
same_word n = eq-eqb n n refl

byte_small : (t : Bool) → bool_byte t < 2
byte_small true = omega arith
byte_small false = omega arith

as_byte : (n : ℕ) (t : Bool) → eqb n 1 ≡ t → n < 2 → n ≡ bool_byte t
as_byte n true e h = eqb-true n 1 e
as_byte n false e h = let f = eqb-false n 1 e in omega arith

pub flag-test : (n : ℕ) → eqb n (bool_byte (eqb n 1)) ≡ ltb n 2
flag-test n =
    t_same _ _ (t_as {P = n ≡ bool_byte (eqb n 1)} {Q = n < 2} (λ e. let h = byte_small (eqb n 1) in omega arith) (as_byte n (eqb n 1) refl) (t-eq n (bool_byte (eqb n 1)))) (t-lt n 2)

-- ---- records whose words are always those of what they say
id_whole : (s : List ℕ) → Bytes s → length s ≡ 4 → enc_id (dec_id s) ≡ s
unfolding enc_id dec_id
id_whole s b e = word-whole 4 s 0 b (omega arith) ∙ take_all 4 s (omega arith)

entry_whole : (s : List ℕ) → Bytes s → length s ≡ 8 → enc_entry (dec_entry s) ≡ s
unfolding dec_entry dec_as
entry_whole s b e = entry_as (dec_entry s) ∙ append-nil _ ∙ enc_as_dec entry_w s 0 b (omega arith) ∙ take_all 8 s (omega arith)

waiter-whole : (s : List ℕ) → Bytes s → length s ≡ 12 → enc_waiter (dec_waiter s) ≡ s
unfolding dec_waiter dec_as
waiter-whole s b e = waiter_as (dec_waiter s) ∙ append-nil _ ∙ enc_as_dec waiter_w s 0 b (omega arith) ∙ take_all 12 s (omega arith)

-- ---- object slots
mark_last : (k m o : Bool) → k and (m and o) ≡ (k and o) and m
unfolding ◌and◌
mark_last true true o = sym (and-end o)
mark_last true false o = sym (and-false o)
mark_last false m o = refl

same-slot : (w o : ObjectWords) (r p q : ℕ) → same (slot_list w r p) (slot_list o r q) ≡ same (object_list w) (object_list o) and eqb p q
unfolding same
same-slot w o r p q = rw (same_word r, and_yes true _ refl) (mark_last (eqb w.kind o.kind) (eqb p q) _)

-- the object's words, and the mark
pub slot-parts : (s : List ℕ) → Bytes s → length s ≡ 40
    → same s (enc_slot (dec_slot s))
    ≡ same (object_list (slot_words (dec_as slot_w s 0))) (object_list (object_words (object_of (slot_words (dec_as slot_w s 0))))) and ltb (le 4 s 8) 2
unfolding dec_slot dec_as
slot-parts s b e =
    let w = slot_words (dec_as slot_w s 0) in
    let p = le 4 s 8 in
    let vs = slot_fields (dec_slot s) in
    let f : same (take 40 s) (enc_as slot_w vs) ≡ same (dec_as slot_w s 0) vs = same_fields slot_w vs s 0 b (omega arith) (slot-fits s b) in
    let a : same s (enc_slot (dec_slot s)) ≡ same (take 40 s) (enc_as slot_w vs) = rw (slot_as (dec_slot s), append-nil, take_all 40 s (omega arith)) in
    a ∙ f ∙ same-slot w (object_words (object_of w)) (le 4 s 4) p (bool_byte (eqb p 1)) ∙ rw (flag-test p)

-- ---- threads
-- the words, and what is spare
pub thread-parts : (s : List ℕ) → Bytes s → length s ≡ 160
    → same s (enc_thread (dec_thread s)) ≡ same (dec_as thread_w s 0) (words_list (thread_words (dec_thread s))) and same (take spare_bytes (drop spare_at s)) (replicate spare_bytes 0)
unfolding dec_thread rows?
thread-parts s b e =
    let x = dec_thread s in
    let vs = words_list (thread_words x) in
    let ids = enc_all enc_id x.wait_objects in
    let Z : List ℕ = replicate spare_bytes 0 in
    let n = length-dec_all dec_id 4 wait_list s 80 in
    let c : same s (enc_as thread_w vs ++ (ids ++ Z)) ≡ same (take 80 s) (enc_as thread_w vs) and same (drop 80 s) (ids ++ Z) = same-cut s (enc_as thread_w vs) (ids ++ Z) 0 80 (length-enc_as thread_w vs) (omega arith) in
    let d : same (drop 80 s) (ids ++ Z) ≡ same (take (wait_list * 4) (drop 80 s)) ids and same (drop spare_at s) Z = same-cut s ids Z 80 (wait_list * 4) (length-all enc_id 4 length-enc_id wait_list x.wait_objects n) (omega arith) in
    let f : same (take 80 s) (enc_as thread_w vs) ≡ same (dec_as thread_w s 0) vs = same_fields thread_w vs s 0 b (omega arith) (thread-fits s b).0 in
    let i : same (take (wait_list * 4) (drop 80 s)) ids ≡ true = rows_all enc_id dec_id 4 id_whole wait_list s 80 b (omega arith) in
    let z : drop spare_at s ≡ take spare_bytes (drop spare_at s) = sym (take_all spare_bytes (drop spare_at s) (rw length-drop (omega arith))) in
    let g = d ∙ and_yes _ (same (drop spare_at s) Z) i ∙ ap (λ t. same t Z) z in
    ap (same s) (thread_as x n) ∙ c ∙ (λ j. f j and g j)

-- ---- the head
-- thirteen words, and what is spare
abbrev said_w : List ℕ
said_w = replicate 13 4

abbrev said : Head → List ℕ
said h =
    h.status_word ∷ h.thread_count ∷ h.current_flag ∷ h.current_value
    ∷ h.next_tls_slot ∷ h.next_guest_id ∷ h.all_blocked ∷ h.relief
    ∷ h.free ∷ h.free_waiter ∷ h.handle_count ∷ h.next_handle
    ∷ h.process_object ∷ []

said_as : (k : Kernel) → enc_head (head_words k) ≡ enc_as said_w (said (head_words k)) ++ replicate 76 0
unfolding enc_head enc_as bytes
said_as k = refl

fit_front : (ws us vs xs : List ℕ) → length ws ≡ length vs → Fit (ws ++ us) (vs ++ xs) → Fit ws vs
fit_front [] us [] xs e f = tt
fit_front [] us (v ∷ vs) xs e f = absurd (omega arith)
fit_front (w ∷ ws) us [] xs e f = absurd (omega arith)
fit_front (w ∷ ws) us (v ∷ vs) xs e f = (f.0, fit_front ws us vs xs (omega arith) f.1)

-- the words that may differ from what they say
same-said : (a0 a1 f v b0 b1 p q c0 c1 c2 c3 d0 f' v' p' q' : ℕ)
    → same (a0 ∷ a1 ∷ f ∷ v ∷ b0 ∷ b1 ∷ p ∷ q ∷ c0 ∷ c1 ∷ c2 ∷ c3 ∷ d0 ∷ []) (a0 ∷ a1 ∷ f' ∷ v' ∷ b0 ∷ b1 ∷ p' ∷ q' ∷ c0 ∷ c1 ∷ c2 ∷ c3 ∷ d0 ∷ [])
    ≡ same (f ∷ v ∷ []) (f' ∷ v' ∷ []) and (eqb p p' and eqb q q')
unfolding same ◌and◌
same-said a0 a1 f v b0 b1 p q c0 c1 c2 c3 d0 f' v' p' q' = simp (same_word, and-end, and_assoc)

-- the current thread, the two flags, and what is spare
pub head-parts : (b : List ℕ) → Bytes b → length b ≡ 16384
    → same (take 128 b) (enc_head (head_words (dec_block b)))
    ≡ option? (le 4 b 8) (le 4 b 12) and (ltb (le 4 b 24) 2 and (ltb (le 4 b 28) 2 and same (take 76 (drop 52 b)) (replicate 76 0)))
unfolding dec_block dec_as
head-parts b h e =
    let k = dec_block b in
    let vs = said (head_words k) in
    let f = le 4 b 8 in
    let v = le 4 b 12 in
    let p = le 4 b 24 in
    let q = le 4 b 28 in
    let o = option_of f v in
    let O = option? f v in
    let Z : List ℕ = replicate 76 0 in
    let z = same (take 76 (drop 52 b)) Z in
    let j : take 52 b ++ take 76 (drop 52 b) ≡ take 128 b = part_join b 0 52 76 in
    let l : length (take 52 b) ≡ 52 = length_part b 0 52 (omega arith) in
    let c = same_append (take 52 b) (enc_as said_w vs) (take 76 (drop 52 b)) Z (l ∙ sym (length-enc_as said_w vs)) in
    let t : Fit said_w vs = fit_front said_w (4 ∷ 4 ∷ 4 ∷ []) vs (0 ∷ 0 ∷ 0 ∷ []) refl (block-fits b h).head in
    let x : same (take 52 b) (enc_as said_w vs) ≡ same (dec_as said_w b 0) vs = same_fields said_w vs b 0 h (omega arith) t in
    let y : same (dec_as said_w b 0) vs ≡ O and (eqb p (bool_byte (eqb p 1)) and eqb q (bool_byte (eqb q 1))) =
    same-said (le 4 b 0) (le 4 b 4) f v (le 4 b 16) (le 4 b 20) p q (le 4 b 32) (le 4 b 36) (le 4 b 40) (le 4 b 44)
    (le 4 b 48) (option_flag o) (option_value o) (bool_byte (eqb p 1)) (bool_byte (eqb q 1)) in
    let u = x ∙ y ∙ (λ i. O and (flag-test p i and flag-test q i)) in
    (λ i. same (sym j i) (said_as k i)) ∙ c ∙ (λ i. u i and z) ∙ sym (and_assoc O (ltb p 2 and ltb q 2) z) ∙ (λ i. O and sym (and_assoc (ltb p 2) (ltb q 2) z) i)

-- ---- the block
pub block-parts : (b : List ℕ) → Bytes b → length b ≡ 16384
    → same b (enc_block (dec_block b))
    ≡ same (take 128 b) (enc_head (head_words (dec_block b)))
    and (rows? enc_thread dec_thread 160 32 b 128 and (rows? enc_slot dec_slot 40 128 b 5248 and same (take 3072 (drop 13312 b)) (replicate 3072 0)))
unfolding enc_block dec_block rows?
block-parts b h e =
    let k = dec_block b in
    let H = enc_head (head_words k) in
    let X1 = enc_all enc_thread k.threads in
    let X2 = enc_all enc_slot k.objects.slots in
    let X3 = enc_all enc_entry k.handles.entries in
    let X4 = enc_all enc_waiter k.objects.waiters in
    let X5 = enc_all enc_id k.objects.thread_objects in
    let Z : List ℕ = replicate 3072 0 in
    let Y5 = X5 ++ Z in
    let Y4 = X4 ++ Y5 in
    let Y3 = X3 ++ Y4 in
    let Y2 = X2 ++ Y3 in
    let Y1 = X1 ++ Y2 in
    let f = block-fits b h in
    let c0 = same-cut b H Y1 0 128 (length-enc_head (head_words k)) (omega arith) in
    let c1 = same-cut b X1 Y2 128 5120 (length-all enc_thread 160 length-enc_thread 32 k.threads f.nt) (omega arith) in
    let c2 = same-cut b X2 Y3 5248 5120 (length-all enc_slot 40 length-enc_slot 128 k.objects.slots f.ns) (omega arith) in
    let c3 = same-cut b X3 Y4 10368 2048 (length-all enc_entry 8 length-enc_entry 256 k.handles.entries f.ne) (omega arith) in
    let c4 = same-cut b X4 Y5 12416 768 (length-all enc_waiter 12 length-enc_waiter 64 k.objects.waiters f.nw) (omega arith) in
    let c5 = same-cut b X5 Z 13184 128 (length-all enc_id 4 length-enc_id 32 k.objects.thread_objects f.ni) (omega arith) in
    let a3 = rows_all enc_entry dec_entry 8 entry_whole 256 b 10368 h (omega arith) in
    let a4 = rows_all enc_waiter dec_waiter 12 waiter-whole 64 b 12416 h (omega arith) in
    let a5 = rows_all enc_id dec_id 4 id_whole 32 b 13184 h (omega arith) in
    let z : drop 13312 b ≡ take 3072 (drop 13312 b) = sym (take_all 3072 (drop 13312 b) (rw length-drop (omega arith))) in
    let e5 : same (drop 13184 b) Y5 ≡ same (take 3072 (drop 13312 b)) Z = c5 ∙ and_yes _ _ a5 ∙ ap (λ t. same t Z) z in
    let e3 : same (drop 10368 b) Y3 ≡ same (take 3072 (drop 13312 b)) Z = c3 ∙ and_yes _ _ a3 ∙ c4 ∙ and_yes _ _ a4 ∙ e5 in
    let e2 = c2 ∙ (λ i. same (take 5120 (drop 5248 b)) X2 and e3 i) in
    let e1 = c1 ∙ (λ i. same (take 5120 (drop 128 b)) X1 and e2 i) in
    c0 ∙ (λ i. same (take 128 b) H and e1 i)
