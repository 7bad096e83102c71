-- Every record of a table of a block anew, one after the other; a record that stays as it is needs no write. Assumes nothing.
use Rattle.std.specs.Prelude.{◌≡◌, length, get_or, set, drop}
use Rattle.std.proofs.Math.Path.{refl, ap}
use Rattle.std.proofs.Common.{sym, subst, ◌∙◌, suc-mul, add-one, drop-drop}
use mathlib.Core.List.{List, [], ◌∷◌, map}
use Prim.Native.Nat.{ℕ, zero, suc, ◌+◌, ◌*◌, ◌≤◌, ◌<◌}
use native.Mathlib.Omega.{arith}
use Rattle.codec.specs.Bytes.{over}
use Rattle.codec.proofs.Laws.{length_over, drop-over}
use Rattle.types.specs.declared.kernel.Kernel.{Kernel}
use Rattle.rows.specs.Holds.{Holds}

-- ---- a list; f is told the index of what it changes
module _ {A : Type 0} (none : A) (f : ℕ → A → A) where
  -- the first i are done; n is the index of the first
  unfoldable pub map_to : ℕ → ℕ → List A → List A
  map_to zero n l = l
  map_to (suc i) n [] = []
  map_to (suc i) n (x ∷ xs) = f n x ∷ map_to i (suc n) xs

  unfoldable pub map_from : ℕ → List A → List A
  map_from n [] = []
  map_from n (x ∷ xs) = f n x ∷ map_from (suc n) xs

  map-set : (i n : ℕ) (l : List A) → i < length l → set (map_to i n l) i (f (i + n) (get_or l i none)) ≡ map_to (suc i) n l
  unfolding map_to
  map-set i n [] h = absurd (omega arith)
  map-set zero n (x ∷ xs) h = let e : 0 + n ≡ n = omega arith in rw e
  map-set (suc i) n (x ∷ xs) h = let e : suc i + n ≡ i + suc n = omega arith in rw e (ap (λ z. f n x ∷ z) (map-set i (suc n) xs (omega arith)))

  map_skip : (i n : ℕ) (l : List A) → i < length l → f (i + n) (get_or l i none) ≡ get_or l i none → map_to i n l ≡ map_to (suc i) n l
  unfolding map_to
  map_skip i n [] h e = absurd (omega arith)
  map_skip zero n (x ∷ xs) h e = let z : 0 + n ≡ n = omega arith in ap (λ y. y ∷ xs) (sym (rw z at e))
  map_skip (suc i) n (x ∷ xs) h e = let z : suc i + n ≡ i + suc n = omega arith in ap (λ y. f n x ∷ y) (map_skip i (suc n) xs (omega arith) (rw z at e))

  map-full : (i n : ℕ) (l : List A) → length l ≤ i → map_to i n l ≡ map_from n l
  unfolding map_to map_from
  map-full zero n [] h = refl
  map-full zero n (x ∷ xs) h = absurd (omega arith)
  map-full (suc i) n [] h = refl
  map-full (suc i) n (x ∷ xs) h = ap (λ y. f n x ∷ y) (map-full i (suc n) xs (omega arith))

-- where the index makes no difference
pub map_each : {A : Type 0} (none : A) (g : A → A) (n : ℕ) (l : List A) → map_from none (λ _ x. g x) n l ≡ map g l
unfolding map_from
map_each none g n [] = refl
map_each none g n (x ∷ xs) = ap (λ y. g x ∷ y) (map_each none g (suc n) xs)

-- ---- a table of `count` records of `size` bytes from `start` on; s is the block before the first is written
module _ {A : Type 0} (enc : A → List ℕ) (start size count : ℕ) (sized : (x : A) → length (enc x) ≡ size) (room : (i : ℕ) → i < count → start + i * size + size ≤ 16384)
    (put : List ℕ → ℕ → A → List ℕ) (put_is : (b : List ℕ) (i : ℕ) (x : A) → i < count → put b i x ≡ over b (start + i * size) (enc x)) (s : List ℕ) where
  -- the records from i on are as they were
  pub record Untouched (i : ℕ) (b : List ℕ) : Type 0 where
    pub long : length b ≡ 16384
    pub rest : drop (start + i * size) b ≡ drop (start + i * size) s

  module _ (i : ℕ) (b : List ℕ) (h : i < count) (g : Untouched i b) where
    next_row : start + (i + 1) * size ≡ start + i * size + size
    next_row = let e : (i + 1) * size ≡ i * size + size = rw (add-one i, suc-mul i size) (omega arith) in omega (arith, e)

    past : (x : List ℕ) → drop (start + (i + 1) * size) x ≡ drop size (drop (start + i * size) x)
    past x = rw (next_row, drop-drop)

    pub untouched_next : Untouched (i + 1) b
    untouched_next = record { long = g.long; rest = past b ∙ ap (drop size) g.rest ∙ sym (past s) }

    pub untouched_put : (x : A) → Untouched (i + 1) (put b i x)
    untouched_put x =
        let l = sized x in
        let p = put_is b i x h in
        let q : start + i * size + length (enc x) + 0 ≡ start + (i + 1) * size = omega (arith, l, next_row) in
        let n : start + i * size + length (enc x) ≤ length b = omega (arith, l, g.long, room i h) in
        record {
          long = ap length p ∙ length_over b (start + i * size) (enc x) n ∙ g.long;
          rest = ap (drop (start + (i + 1) * size)) p ∙ subst (λ n. drop n (over b (start + i * size) (enc x)) ≡ drop n b) q (drop-over b (start + i * size) (enc x) 0 (omega (arith, n, g.long))) ∙ untouched_next.rest;
        }

  -- each record changed by f
  module _ (none : A) (f : ℕ → A → A) (state : List A → Kernel) (Put-Holds : (b : List ℕ) (l : List A) (i : ℕ) (x : A) → Holds b (state l) → Holds (put b i x) (state (set l i x)))
      (before : List A) (many : length before ≡ count) where
    -- the first i records are done, the others as they were
    pub record MappedTo (i : ℕ) (b : List ℕ) : Type 0 where
      pub rows : Untouched i b
      pub holds : Holds b (state (map_to none f i 0 before))

    pub mapped_none : length s ≡ 16384 → Holds s (state before) → MappedTo 0 s
    unfolding map_to
    mapped_none n h = record { rows = record { long = n; rest = refl }; holds = h }

    module _ (i : ℕ) (b : List ℕ) (h : i < count) (g : MappedTo i b) where
      index_is : i + 0 ≡ i
      index_is = omega arith

      pub mapped_next : f i (get_or before i none) ≡ get_or before i none → MappedTo (i + 1) b
      mapped_next e =
          let z = index_is in
          let r : map_to none f i 0 before ≡ map_to none f (i + 1) 0 before = rw (add-one i) (map_skip none f i 0 before (omega (arith, many)) (rw z e)) in
          record { rows = untouched_next i b h g.rows; holds = subst (λ l. Holds b (state l)) r g.holds }

      pub mapped_more : (x : A) → x ≡ f i (get_or before i none) → MappedTo (i + 1) (put b i x)
      mapped_more x e =
          let z = index_is in
          let w : set (map_to none f i 0 before) i x ≡ map_to none f (i + 1) 0 before = rw (add-one i, e) (rw z at (map-set none f i 0 before (omega (arith, many)))) in
          record { rows = untouched_put i b h g.rows x; holds = subst (λ y. Holds (put b i x) (state y)) w (Put-Holds b (map_to none f i 0 before) i x g.holds) }

    pub mapped_all : (i : ℕ) (b : List ℕ) → count ≤ i → MappedTo i b → Holds b (state (map_from none f 0 before))
    mapped_all i b h g = subst (λ l. Holds b (state l)) (map-full none f i 0 before (omega (arith, many))) g.holds
