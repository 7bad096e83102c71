-- A block that holds a state, with an object of it let go. Assumes nothing.
use mathlib.Core.Path.{◌≡◌, refl, sym, ap, subst, ◌∙◌}
use mathlib.Core.Bool.{true, false}
use mathlib.Core.List.{List, [], ◌∷◌}
use Prim.Native.Nat.{ℕ, ◌-◌, ◌<◌, ◌≤◌}
use borrow.Author.Tests.{le-leb, lt-leb}
use lib.Dec.{leb}
use lib.ListN.{length}
use Rattle.std.proofs.lemmas.Grind.{common_steps}
use Rattle.laws.specs.Walk.{walk, walk-zero}
use Rattle.codec.specs.Bytes.{over}
use Rattle.codec.specs.Layout.{enc_all, dec_all}
use Rattle.types.specs.declared.object.KObject.TheVariants.{Free}
use Rattle.types.specs.declared.object.Slot.{Slot}
use Rattle.types.specs.declared.object.ObjectStore.{ObjectStore}
use Rattle.types.specs.declared.kernel.Kernel.{Kernel}
use Rattle.types.specs.Object.{head_of}
use Rattle.types.specs.Tests.{free?, free-number}
use Rattle.block.specs.declared.Head.{Head}
use Rattle.block.specs.Table.{enc_waiter, dec_waiter}
use Rattle.block.specs.Block.{head_words, dec_block}
use Rattle.sound.specs.View.{slot_at, object_at, waiter_nexts}
use Rattle.object.specs.declared.waiters.Links.{Links}
use Rattle.object.specs.Waiters.{unlink}
use Rattle.object.specs.Store.{is_free, release, releases, release_if}
use Rattle.soundness.specs.Fits.{Word, release-fits}
use Rattle.soundness.specs.Objects.{release-full, release-overflow}
use Rattle.thread.specs.Threads.{with_threads}
use Rattle.rows.specs.Rows.{slot_put, head_put}
use Rattle.rows.specs.Holds.{Holds, with_waiters, put-slot, put-waiters, put-head}
use Rattle.release.specs.Encoded.{Encoded, encoded-holds, held-state, held-encoded, store-fits, stored_fits}
use Rattle.release.proofs.Lists.{list-next, list-all}

-- the state k with other objects
abbrev with : Kernel → ObjectStore → Kernel
with k s = with_threads k k.threads s

-- ---- the records of a chain; a chain from 0 has none
abbrev pub links_of : ObjectStore → ℕ → ℕ → Links
links_of s first free = unlink (λ _. false) s.waiters free (walk (waiter_nexts s.waiters) 64 first)

pub no-records : (s : ObjectStore) (first free : ℕ) → first ≡ 0 → links_of s first free ≡ record { waiters = s.waiters; free = free; head = 0 }
unfolding unlink
no-records s first free e = ap (λ (xs : List ℕ). unlink (λ _. false) s.waiters free xs) (ap (walk (waiter_nexts s.waiters) 64) e ∙ walk-zero (waiter_nexts s.waiters) 64)

pub waiters_are : (b : List ℕ) → dec_all dec_waiter 12 64 b 12416 ≡ (dec_block b).objects.waiters
unfolding dec_block
waiters_are b = refl

pub put-records : (b : List ℕ) → Encoded b → (first free : ℕ) (u : Links) → u ≡ links_of (dec_block b).objects first free → length u.waiters ≡ 64
    → Holds (over b 12416 (enc_all enc_waiter u.waiters)) (with (dec_block b) (with_waiters (dec_block b).objects (links_of (dec_block b).objects first free).waiters))
put-records b en first free u e n =
    subst (λ (z : Links). Holds (over b 12416 (enc_all enc_waiter u.waiters)) (with (dec_block b) (with_waiters (dec_block b).objects z.waiters))) e (put-waiters (encoded-holds b en) u.waiters n)

-- ---- one object; e is the block with the records free
module _ (e : List ℕ) (k : Kernel) (o : ℕ) where
  abbrev s : ObjectStore
  s = k.objects

  abbrev links : Links
  links = links_of s (head_of (object_at s o)) s.free_waiter

  abbrev freed_slot : Slot → ℕ → Slot
  freed_slot old free = record { object = Free free; refcount = 0; pulsed = old.pulsed }

  in_slots : Holds e (with k (with_waiters s links.waiters))
      → Holds (head_put (slot_put e o (freed_slot (slot_at s.slots o) s.free)) (head_words (with k (release_if false s o)))) (with k (release_if false s o))
  unfolding release_if
  in_slots g = put-head (put-slot g o (freed_slot (slot_at s.slots o) s.free)) (with k (release_if false s o)) refl refl refl refl refl

  head-freed : record (head_words k) { free = o; free_waiter = links.free } ≡ head_words (with k (release_if false s o))
  unfolding release_if
  head-freed = refl

  -- with the head h of the state, the slot old, the first record and what is free then
  pub freed : (h : Head) → h ≡ head_words k → (old : Slot) → old ≡ slot_at s.slots o → (first : ℕ) → first ≡ head_of old.object → (free : ℕ) → free ≡ (links_of s first h.free_waiter).free
      → Holds e (with k (with_waiters s (links_of s first h.free_waiter).waiters))
      → Holds (head_put (slot_put e o (freed_slot old h.free)) (record h { free = o; free_waiter = free })) (with k (release_if false s o))
  freed h eh old eo first ef free er g =
      let w : Holds e (with k (with_waiters s links.waiters)) = rw (ef, eo, eh) at g in
      rw (er, ef, eo, eh, head-freed) (in_slots w)

-- ---- the whole
module _ (b : List ℕ) (en : Encoded b) (o : ℕ) where
  abbrev q : Kernel
  q = dec_block b

  pub released-dead : (x : Slot) → x ≡ slot_at q.objects.slots o → free? x.object ≡ true → release q.objects o ≡ q.objects
  unfolding release
  released-dead x e z = let w : is_free (object_at q.objects o) ≡ true = ap (λ (y : Slot). is_free y.object) (sym e) ∙ sym (free-number x.object) ∙ z in rw w

  live : (x : Slot) → x ≡ slot_at q.objects.slots o → free? x.object ≡ false → is_free (object_at q.objects o) ≡ false
  live x e z = ap (λ (y : Slot). is_free y.object) (sym e) ∙ sym (free-number x.object) ∙ z

  pub released-last : (x : Slot) → x ≡ slot_at q.objects.slots o → free? x.object ≡ false → x.refcount < 2 → release q.objects o ≡ release_if false q.objects o
  unfolding release
  released-last x e z n = let m : leb 2 (slot_at q.objects.slots o).refcount ≡ false = ap (λ (y : Slot). leb 2 y.refcount) (sym e) ∙ lt-leb 2 x.refcount n in rw (live x e z, m)

  pub released-down : (x : Slot) → x ≡ slot_at q.objects.slots o → free? x.object ≡ false → 2 ≤ x.refcount
      → Holds (slot_put b o (record { object = x.object; refcount = x.refcount - 1; pulsed = x.pulsed })) (with q (release q.objects o))
  unfolding release release_if
  released-down x e z n = let m : leb 2 (slot_at q.objects.slots o).refcount ≡ true = ap (λ (y : Slot). leb 2 y.refcount) (sym e) ∙ le-leb 2 x.refcount n in rw (live x e z, m, e) (put-slot (encoded-holds b en) o _)

  pub released : (e : List ℕ) → Word o → Holds e (with q (release q.objects o)) → (dec_block e ≡ with q (release q.objects o)) × Encoded e
  released e w h =
      let f = stored_fits q en.fits (release q.objects o) (release-fits q.objects (store-fits q en.fits) o w) h.sizes (release-full q.objects o ∙ en.fits.clean.2) (release-overflow q.objects o ∙ en.fits.clean.3) in
      (held-state e _ h f, held-encoded e _ h f)

-- ---- a list of objects, from the state k on; those of the rest are still to go
module _ (k : Kernel) (os : List ℕ) where
  pub record Releasing (b rest : List ℕ) : Type 0 where
    pub encoded : Encoded b
    pub goal : with (dec_block b) (releases (dec_block b).objects rest) ≡ with k (releases k.objects os)

  pub release-more : (b e : List ℕ) (o : ℕ) (rest : List ℕ) → Releasing b (o ∷ rest) → dec_block e ≡ with (dec_block b) (release (dec_block b).objects o) → Encoded e → Releasing e rest
  unfolding releases
  release-more b e o rest g d en = record { encoded = en; goal = ap (λ (z : Kernel). with z (releases z.objects rest)) d ∙ g.goal }

  pub release-end : (b : List ℕ) → Releasing b [] → (dec_block b ≡ with k (releases k.objects os)) × Encoded b
  unfolding releases
  release-end b g = (g.goal, g.encoded)

pub ruleset goes = (common_steps, released-dead, released-last, released-down, released)

pub ruleset lists = (common_steps, list-next, list-all, release-more, release-end)
