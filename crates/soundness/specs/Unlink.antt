-- Some cells of a chain go back to the free chain: laws on lists of next numbers.
use Rattle.std.specs.Prelude.{◌≡◌, Bool, not, ℕ, zero, suc, ◌+◌, ◌≤◌, ◌<◌, length, set, get_or}
use Rattle.std.proofs.Math.Path.{refl}
use Rattle.std.proofs.Common.{sym, ◌∙◌}
use Rattle.std.proofs.Math.Bool.{true, false}
use Rattle.std.proofs.Math.Logic.{inl, inr}
use mathlib.Core.List.{List, [], ◌∷◌}
use native.Mathlib.Omega.{arith}
use Rattle.laws.specs.Count.{ind-same, ind-eq, ind-cases, count, count_all, at, put, Cell, length-put, at-put-other}
use Rattle.laws.specs.Chain.{IsChain, chain-put, chain-push}
use Rattle.laws.specs.Pool.{Chains, count_all-set, count-le-all, cell1, cell1-le, Pool, chains-set, chains-length, chains_get}

pub record Hooks : Type 0 where
  pub nx : List ℕ
  pub free : ℕ
  pub head : ℕ

-- the cell x in front of what is kept, or of the free chain
abbrev pub hook : Bool → ℕ → Hooks → Hooks
hook true x u = record { nx = put u.nx x u.head; free = u.free; head = x }
hook false x u = record { nx = put u.nx x u.free; free = x; head = u.head }

abbrev pub keep_if : Bool → ℕ → List ℕ → List ℕ
keep_if true x xs = x ∷ xs
keep_if false x xs = xs

-- a column that is blank where a cell is free
abbrev pub blank_if : Bool → ℕ → List ℕ → List ℕ
blank_if true x l = l
blank_if false x l = put l x 0

module _ (keep : ℕ → Bool) where
  unfoldable pub unhook : List ℕ → ℕ → List ℕ → Hooks
  unhook nx free [] = record { nx = nx; free = free; head = 0 }
  unhook nx free (x ∷ xs) = hook (keep x) x (unhook nx free xs)

  unfoldable pub kept : List ℕ → List ℕ
  kept [] = []
  kept (x ∷ xs) = keep_if (keep x) x (kept xs)

  unfoldable pub gone : List ℕ → List ℕ → List ℕ
  gone [] fs = fs
  gone (x ∷ xs) fs = keep_if (not (keep x)) x (gone xs fs)

  unfoldable pub blanked : List ℕ → List ℕ → List ℕ
  blanked l [] = l
  blanked l (x ∷ xs) = blank_if (keep x) x (blanked l xs)

-- what holds of the links after the cells xs are gone through, with the lists that are kept and free
pub record Hooked (nx : List ℕ) (xs : List ℕ) (fs ks gs : List ℕ) (u : Hooks) : Type 0 where
  pub len : length u.nx ≡ length nx
  pub frame : (i : ℕ) → count i xs ≡ 0 → at u.nx i ≡ at nx i
  pub chain : IsChain u.nx u.head ks
  pub fchain : IsChain u.nx u.free gs
  pub same : (i : ℕ) → count i ks + count i gs ≡ count i xs + count i fs

hook-ok : (b : Bool) (x : ℕ) (nx xs fs ks gs : List ℕ) (u : Hooks) → Cell nx x → count x xs + count x fs ≡ 0 → Hooked nx xs fs ks gs u
    → Hooked nx (x ∷ xs) fs (keep_if b x ks) (keep_if (not b) x gs) (hook b x u)
unfolding count
hook-ok true x nx xs fs ks gs u k z h = record {
  len = length-put u.nx x u.head ∙ h.len;
  frame = λ i n. at-put-other u.nx x i u.head (λ e. omega (arith, ind-eq x i (sym e))) ∙ h.frame i (omega arith);
  chain = chain-push u.nx x u.head ks (rw h.len k) (omega (arith, h.same x)) h.chain;
  fchain = chain-put u.nx x u.head u.free gs (omega (arith, h.same x)) h.fchain;
  same = λ i. omega (arith, h.same i);
}
hook-ok false x nx xs fs ks gs u k z h = record {
  len = length-put u.nx x u.free ∙ h.len;
  frame = λ i n. at-put-other u.nx x i u.free (λ e. omega (arith, ind-eq x i (sym e))) ∙ h.frame i (omega arith);
  chain = chain-put u.nx x u.free u.head ks (omega (arith, h.same x)) h.chain;
  fchain = chain-push u.nx x u.free gs (rw h.len k) (omega (arith, h.same x)) h.fchain;
  same = λ i. omega (arith, h.same i);
}

module _ (keep : ℕ → Bool) where
  pub unhook-ok : (nx : List ℕ) (h free : ℕ) (xs fs : List ℕ) → IsChain nx h xs → IsChain nx free fs → ((i : ℕ) → count i xs + count i fs ≤ 1)
      → Hooked nx xs fs (kept keep xs) (gone keep xs fs) (unhook keep nx free xs)
  unfolding count unhook kept gone
  unhook-ok nx h free [] fs c f u = record { len = refl; frame = λ i n. refl; chain = refl; fchain = f; same = λ i. refl }
  unhook-ok nx h free (x ∷ xs) fs c f u =
      hook-ok (keep x) x nx xs fs (kept keep xs) (gone keep xs fs) (unhook keep nx free xs) c.1 (omega (arith, u x, ind-same x))
      (unhook-ok nx (at nx x) free xs fs c.2 f (λ i. omega (arith, u i)))

  pub pool-drop-at : (nx hs : List ℕ) (free k : ℕ) (cs : List (List ℕ)) (fs : List ℕ) → Chains nx hs cs → IsChain nx free fs
      → ((i : ℕ) → count_all i cs + count i fs ≡ cell1 (length nx) i) → k < length hs
      → Pool (unhook keep nx free (get_or cs k [])).nx (set hs k (unhook keep nx free (get_or cs k [])).head) (unhook keep nx free (get_or cs k [])).free
  pool-drop-at nx hs free k cs fs c f once l =
      let ck : List ℕ = get_or cs k [] in
      let h = unhook-ok nx _ free ck fs (chains_get nx hs cs k c) f (λ i. omega (arith, once i, cell1-le (length nx) i, count-le-all i cs k)) in
      let l' : k < length cs = omega (arith, chains-length nx hs cs c) in
      record {
        cs = set cs k (kept keep ck);
        fs = gone keep ck fs;
        chains =
            chains-set nx _ hs cs k _ _ h.len l' (λ i. omega (arith, once i, cell1-le (length nx) i)) (λ i p z. h.frame i z) h.chain c;
        fchain = h.fchain;
        once = λ i. rw h.len (omega (arith, once i, h.same i, count_all-set i cs k (kept keep ck) l'));
      }

pub kept-none : (xs : List ℕ) → kept (λ i. false) xs ≡ []
unfolding kept
kept-none [] = refl
kept-none (x ∷ xs) = kept-none xs

-- ---- what goes is blank, and the rest of a column stays
pub at-put-zero : (l : List ℕ) (r : ℕ) → at (put l r 0) r ≡ 0
unfolding at put
at-put-zero l zero = refl
at-put-zero [] (suc i) = refl
at-put-zero (x ∷ xs) (suc zero) = refl
at-put-zero (x ∷ xs) (suc (suc i)) = at-put-zero xs (suc i)

module _ (keep : ℕ → Bool) where
  pub gone-count : (i : ℕ) (xs fs : List ℕ) → count i (gone keep xs fs) ≡ count i (gone keep xs []) + count i fs
  unfolding count gone
  gone-count i [] fs = omega arith
  gone-count i (x ∷ xs) fs = go (keep x) (gone-count i xs fs)
    where
      go : (q : Bool) → count i (gone keep xs fs) ≡ count i (gone keep xs []) + count i fs
          → count i (keep_if (not q) x (gone keep xs fs)) ≡ count i (keep_if (not q) x (gone keep xs [])) + count i fs
      go true e = e
      go false e = omega arith

  pub blanked-kept : (l : List ℕ) (i : ℕ) (xs : List ℕ) → count i (gone keep xs []) ≡ 0 → at (blanked keep l xs) i ≡ at l i
  unfolding count gone blanked
  blanked-kept l i [] z = refl
  blanked-kept l i (x ∷ xs) z = go (keep x) z (λ w. blanked-kept l i xs w)
    where
      go : (q : Bool) → count i (keep_if (not q) x (gone keep xs [])) ≡ 0 → (count i (gone keep xs []) ≡ 0 → at (blanked keep l xs) i ≡ at l i)
          → at (blank_if q x (blanked keep l xs)) i ≡ at l i
      go true z ih = ih z
      go false z ih = at-put-other (blanked keep l xs) x i 0 (λ e. omega (arith, ind-eq x i (sym e))) ∙ ih (omega arith)

  pub blanked-gone : (l : List ℕ) (i : ℕ) (xs : List ℕ) → 0 < count i (gone keep xs []) → at (blanked keep l xs) i ≡ 0
  unfolding count gone blanked
  blanked-gone l i [] z = absurd (omega arith)
  blanked-gone l i (x ∷ xs) z = go (keep x) z (λ w. blanked-gone l i xs w)
    where
      go : (q : Bool) → 0 < count i (keep_if (not q) x (gone keep xs [])) → (0 < count i (gone keep xs []) → at (blanked keep l xs) i ≡ 0)
          → at (blank_if q x (blanked keep l xs)) i ≡ 0
      go true z ih = ih z
      go false z ih =
          elim (ind-cases x i) [
            | inl e ↦ rw e.0 (at-put-zero (blanked keep l xs) i)
            | inr e ↦ at-put-other (blanked keep l xs) x i 0 (λ q. e.0 (sym q)) ∙ ih (omega (arith, e.1))
          ]
