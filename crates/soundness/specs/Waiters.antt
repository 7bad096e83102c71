-- The columns of the records: what `unlink` and `hung` make of each.
use Rattle.std.specs.Prelude.{◌≡◌, Bool, true, false, ℕ, zero, suc, length}
use Rattle.std.proofs.Math.Path.{refl}
use Rattle.std.proofs.Common.{◌∙◌, length-set}
use mathlib.Core.List.{List, [], ◌∷◌, map}
use Rattle.std.proofs.Math.Seq.{map-set_same}
use Rattle.laws.specs.Count.{put}
use Rattle.laws.specs.Chain.{hang, head_or}
use Rattle.laws.specs.All.{All, all_set}
use Rattle.types.specs.declared.object.Waiter.{Waiter}
use Rattle.sound.specs.View.{waiter_nexts, waiter_threads, waiter_addresses}
use Rattle.object.specs.declared.waiters.Links.{Links}
use Rattle.object.specs.Waiters.{no_waiter, waiter_at, waiter_put, with_next, freed, link, unlink, last_of, first_of, hung}
use Rattle.soundness.specs.Slots.{map-set}
use Rattle.soundness.specs.Unlink.{Hooks, hook, unhook, blank_if, blanked}

pub map-waiter_put : (f : Waiter → ℕ) (l : List Waiter) (r : ℕ) (v : Waiter) → map f (waiter_put l r v) ≡ put (map f l) r (f v)
unfolding waiter_put put
map-waiter_put f l zero v = refl
map-waiter_put f l (suc i) v = map-set f l i v

pub map-waiter_put-same : (f : Waiter → ℕ) (l : List Waiter) (r : ℕ) (v : Waiter) → f v ≡ f (waiter_at l r) → map f (waiter_put l r v) ≡ map f l
unfolding waiter_put waiter_at
map-waiter_put-same f l zero v e = refl
map-waiter_put-same f l (suc i) v e = map-set_same f l i v no_waiter e

pub length-waiter_put : (l : List Waiter) (r : ℕ) (v : Waiter) → length (waiter_put l r v) ≡ length l
unfolding waiter_put
length-waiter_put l zero v = refl
length-waiter_put l (suc i) v = length-set l i v

pub all-waiter_put : (P : Waiter → Type 0) (l : List Waiter) (r : ℕ) (v : Waiter) → P v → All P l → All P (waiter_put l r v)
unfolding waiter_put
all-waiter_put P l zero v p a = a
all-waiter_put P l (suc i) v p a = all_set P l i p a

-- ---- unlink
link-next : (b : Bool) (x : ℕ) (u : Links) (w : Hooks) → waiter_nexts u.waiters ≡ w.nx → u.free ≡ w.free → u.head ≡ w.head
    → (waiter_nexts (link b x u).waiters ≡ (hook b x w).nx) × ((link b x u).free ≡ (hook b x w).free) × ((link b x u).head ≡ (hook b x w).head)
link-next true x u w e f h = (map-waiter_put (λ (y : Waiter). y.next) u.waiters x _ ∙ rw (e, h), f, refl)
link-next false x u w e f h = (map-waiter_put (λ (y : Waiter). y.next) u.waiters x _ ∙ rw (e, f), refl, h)

-- the next column, the free head and the new head are those of the law on numbers
pub unlink-next : (keep : ℕ → Bool) (ws : List Waiter) (free : ℕ) (xs : List ℕ)
    → (waiter_nexts (unlink keep ws free xs).waiters ≡ (unhook keep (waiter_nexts ws) free xs).nx) × ((unlink keep ws free xs).free ≡ (unhook keep (waiter_nexts ws) free xs).free)
    × ((unlink keep ws free xs).head ≡ (unhook keep (waiter_nexts ws) free xs).head)
unfolding unlink unhook
unlink-next keep ws free [] = (refl, refl, refl)
unlink-next keep ws free (x ∷ xs) =
    let r = unlink-next keep ws free xs in
    link-next (keep x) x (unlink keep ws free xs) (unhook keep (waiter_nexts ws) free xs) r.0 r.1 r.2

-- another column is blanked at what goes
module _ (f : Waiter → ℕ) (stays : (w : Waiter) (n : ℕ) → f (with_next w n) ≡ f w) (blank : (n : ℕ) → f (freed n) ≡ 0) where
  link_column : (b : Bool) (x : ℕ) (u : Links) (l : List ℕ) → map f u.waiters ≡ l → map f (link b x u).waiters ≡ blank_if b x l
  link_column true x u l e = map-waiter_put-same f u.waiters x _ (stays _ _) ∙ e
  link_column false x u l e = map-waiter_put f u.waiters x _ ∙ rw (e, blank u.free)

  pub unlink_column : (keep : ℕ → Bool) (ws : List Waiter) (free : ℕ) (xs : List ℕ) → map f (unlink keep ws free xs).waiters ≡ blanked keep (map f ws) xs
  unfolding unlink blanked
  unlink_column keep ws free [] = refl
  unlink_column keep ws free (x ∷ xs) = link_column (keep x) x (unlink keep ws free xs) (blanked keep (map f ws) xs) (unlink_column keep ws free xs)

pub unlink-threads : (keep : ℕ → Bool) (ws : List Waiter) (free : ℕ) (xs : List ℕ) → waiter_threads (unlink keep ws free xs).waiters ≡ blanked keep (waiter_threads ws) xs
unlink-threads keep ws free xs = unlink_column (λ (w : Waiter). w.thread) (λ w n. refl) (λ n. refl) keep ws free xs

pub unlink-addresses : (keep : ℕ → Bool) (ws : List Waiter) (free : ℕ) (xs : List ℕ) → waiter_addresses (unlink keep ws free xs).waiters ≡ blanked keep (waiter_addresses ws) xs
unlink-addresses keep ws free xs = unlink_column (λ (w : Waiter). w.address) (λ w n. refl) (λ n. refl) keep ws free xs

length-link : (b : Bool) (x : ℕ) (u : Links) → length (link b x u).waiters ≡ length u.waiters
length-link true x u = length-waiter_put u.waiters x _
length-link false x u = length-waiter_put u.waiters x _

pub length-unlink : (keep : ℕ → Bool) (ws : List Waiter) (free : ℕ) (xs : List ℕ) → length (unlink keep ws free xs).waiters ≡ length ws
unfolding unlink
length-unlink keep ws free [] = refl
length-unlink keep ws free (x ∷ xs) = length-link (keep x) x (unlink keep ws free xs) ∙ length-unlink keep ws free xs

-- ---- hung
-- the next column is the law's
hang-last : (nx xs : List ℕ) (r : ℕ) → put (put nx (last_of xs) r) r 0 ≡ hang nx xs r
unfolding hang last_of put
hang-last nx [] r = refl
hang-last nx (x ∷ []) r = refl
hang-last nx (x ∷ y ∷ ys) r = hang-last nx (y ∷ ys) r

pub hung-next : (ws : List Waiter) (xs : List ℕ) (r : ℕ) (w : Waiter) → w.next ≡ 0 → waiter_nexts (hung ws xs r w) ≡ hang (waiter_nexts ws) xs r
hung-next ws xs r w e =
    let f : Waiter → ℕ = λ y. y.next in
    map-waiter_put f (waiter_put ws (last_of xs) (with_next (waiter_at ws (last_of xs)) r)) r w ∙ rw (map-waiter_put f ws (last_of xs) (with_next (waiter_at ws (last_of xs)) r), e) (hang-last (map f ws) xs r)

pub hung_column : (f : Waiter → ℕ) → ((w : Waiter) (n : ℕ) → f (with_next w n) ≡ f w) → (ws : List Waiter) (xs : List ℕ) (r : ℕ) (w : Waiter) → map f (hung ws xs r w) ≡ put (map f ws) r (f w)
hung_column f stays ws xs r w =
    map-waiter_put f (waiter_put ws (last_of xs) (with_next (waiter_at ws (last_of xs)) r)) r w ∙ rw (map-waiter_put-same f ws (last_of xs) (with_next (waiter_at ws (last_of xs)) r) (stays _ _))

pub length-hung : (ws : List Waiter) (xs : List ℕ) (r : ℕ) (w : Waiter) → length (hung ws xs r w) ≡ length ws
length-hung ws xs r w = length-waiter_put (waiter_put ws (last_of xs) (with_next (waiter_at ws (last_of xs)) r)) r w ∙ length-waiter_put ws (last_of xs) _

pub first_head : (xs : List ℕ) (r : ℕ) → first_of xs r ≡ head_or xs r
unfolding head_or
first_head [] r = refl
first_head (x ∷ xs) r = refl
