-- Slots anew that are alike: kind, chain, thread named and count are those before. What an object says of its signal may differ, and marks are free.
use Rattle.std.specs.Prelude.{◌≡◌, refl, Bool, false, length, get_or, set}
use Rattle.std.proofs.Common.{ap}
use mathlib.Core.List.{List, [], ◌∷◌, map}
use Prim.Native.Nat.{ℕ, zero, suc}
use Rattle.laws.specs.All.{All}
use Rattle.types.specs.declared.thread.Thread.{Thread}
use Rattle.types.specs.declared.object.KObject.{KObject}
use Rattle.types.specs.declared.object.Slot.{Slot}
use Rattle.types.specs.declared.object.ObjectStore.{ObjectStore}
use Rattle.types.specs.declared.kernel.Kernel.{Kernel}
use Rattle.block.proofs.Fits.{SlotFits}
use Rattle.sound.specs.View.{no_slot, slot_at}
use Rattle.sound.specs.Objects.{names, kept_names, ContentOk}
use Rattle.object.specs.Slots.{slot_put, with_slots}
use Rattle.thread.specs.Threads.{with_threads}
use Rattle.soundness.specs.Slots.{kind_at, head_at, next_at}
use Rattle.soundness.specs.Objects.{Shape, shape_of, slots-ok}
use Rattle.soundness.specs.Records.{chains-same}
use Rattle.soundness.specs.Fits.{KeepsFit, slot_of, of-slot, with_slots-fits}
use Rattle.soundness.specs.Whole.{Parts}
use Rattle.soundness.specs.Creates.{StoreOk}
use Rattle.pass.specs.Signal.{with_overflow}

-- ---- rows of slots, one by one
abbrev pub Pairs : (Slot → Slot → Type 0) → List Slot → List Slot → Type 0
Pairs R [] [] = Unit {0}
Pairs R [] (y ∷ ys) = ⊥
Pairs R (x ∷ xs) [] = ⊥
Pairs R (x ∷ xs) (y ∷ ys) = R x y × Pairs R xs ys

module _ (R : Slot → Slot → Type 0) where
  pub pairs_map : (g : Slot → Slot) → ((x : Slot) → R x (g x)) → (l : List Slot) → Pairs R l (map g l)
  pairs_map g e [] = tt
  pairs_map g e (x ∷ l) = (e x, pairs_map g e l)

  pairs_f : {A : Type 0} (f : Slot → A) → ((x y : Slot) → R x y → f y ≡ f x) → (l m : List Slot) → Pairs R l m → map f m ≡ map f l
  pairs_f f e [] [] p = refl
  pairs_f f e [] (y ∷ m) p = absurd p
  pairs_f f e (x ∷ l) [] p = absurd p
  pairs_f f e (x ∷ l) (y ∷ m) p = rw (e x y p.0, pairs_f f e l m p.1)

  pairs_length : (l m : List Slot) → Pairs R l m → length m ≡ length l
  pairs_length [] [] p = refl
  pairs_length [] (y ∷ m) p = absurd p
  pairs_length (x ∷ l) [] p = absurd p
  pairs_length (x ∷ l) (y ∷ m) p = ap suc (pairs_length l m p.1)

  pairs_all : (P : Slot → Type 0) → ((x y : Slot) → R x y → P x → P y) → (l m : List Slot) → Pairs R l m → All P l → All P m
  pairs_all P e [] [] p a = tt
  pairs_all P e [] (y ∷ m) p a = absurd p
  pairs_all P e (x ∷ l) [] p a = absurd p
  pairs_all P e (x ∷ l) (y ∷ m) p a = (e x y p.0 a.0, pairs_all P e l m p.1 a.1)

  module _ (r : (x : Slot) → R x x) where
    pairs_same : (l : List Slot) → Pairs R l l
    pairs_same [] = tt
    pairs_same (x ∷ l) = (r x, pairs_same l)

    pairs_set : (l : List Slot) (i : ℕ) (v : Slot) → R (get_or l i no_slot) v → Pairs R l (set l i v)
    pairs_set [] i v e = tt
    pairs_set (x ∷ l) zero v e = (e, pairs_same l)
    pairs_set (x ∷ l) (suc i) v e = (r x, pairs_set l i v e)

    pub pairs_put : (l : List Slot) (o : ℕ) (v : Slot) → R (slot_at l o) v → Pairs R l (slot_put l o v)
    unfolding slot_at slot_put
    pairs_put l zero v e = pairs_same l
    pairs_put l (suc i) v e = pairs_set l i v e

    pairs_at : (l m : List Slot) → Pairs R l m → (o : ℕ) → R (slot_at l o) (slot_at m o)
    unfolding slot_at
    pairs_at l m p zero = r no_slot
    pairs_at [] [] p (suc i) = r no_slot
    pairs_at [] (y ∷ m) p (suc i) = absurd p
    pairs_at (x ∷ l) [] p (suc i) = absurd p
    pairs_at (x ∷ l) (y ∷ m) p (suc zero) = p.0
    pairs_at (x ∷ l) (y ∷ m) p (suc (suc i)) = pairs_at l m p.1 (suc i)

-- ---- alike, for objects and for slots
module _ (n : ℕ) (ts : List Thread) where
  pub record Like (x y : KObject) : Type 0 where
    pub shape : shape_of y ≡ shape_of x
    pub content : ContentOk n ts x → ContentOk n ts y
    pub fits : KeepsFit x → KeepsFit y

  pub record Alike (x y : Slot) : Type 0 where
    pub like : Like x.object y.object
    pub count : y.refcount ≡ x.refcount
    pub fits : SlotFits x → SlotFits y

  pub like-same : (x : KObject) → Like x x
  like-same x = record { shape = refl; content = λ c. c; fits = λ f. f }

  pub alike_same : (x : Slot) → Alike x x
  alike_same x = record { like = like-same x.object; count = refl; fits = λ f. f }

  -- whatever its mark
  pub alike_of : (x : Slot) (y : KObject) (p : Bool) → Like x.object y → Alike x (record { object = y; refcount = x.refcount; pulsed = p })
  alike_of x y p l = record { like = l; count = refl; fits = λ f. slot_of y x.refcount p (l.fits (of-slot x f)) f.1.0 }

  -- ---- a store with slots that are alike
  pub alike_store : (f : ℕ → ℕ) (s : ObjectStore) (l : List Slot) → Pairs Alike s.slots l → StoreOk n ts f s → StoreOk n ts f (with_slots s l)
  alike_store f s l p h =
      let at : (o : ℕ) → Alike (slot_at s.slots o) (slot_at l o) = pairs_at Alike alike_same s.slots l p in
      record {
        ob =
            slots-ok s l f (pairs_f Alike kind_at (λ x y a. ap (λ (q : Shape). q.kind) a.like.shape) s.slots l p) (pairs_f Alike (λ x. x.refcount) (λ x y a. a.count) s.slots l p)
            (pairs_f Alike next_at (λ x y a. ap (λ (q : Shape). q.next) a.like.shape) s.slots l p) (pairs_f Alike head_at (λ x y a. ap (λ (q : Shape). q.head) a.like.shape) s.slots l p)
            (pairs_length Alike s.slots l p) (λ o. ap (λ (q : Shape). q.ref) (at o).like.shape) h.ob;
        contents = λ o. (at o).like.content (h.contents o);
        chains = chains-same n s (with_slots s l) (record { waiters = refl; free = refl; heads = λ o. ap (λ (q : Shape). q.head) (at o).like.shape }) h.chains;
        fits = with_slots-fits s h.fits l (pairs_all Alike SlotFits (λ x y a. a.fits) s.slots l p h.fits.slots);
        full = h.full;
        overflow = h.overflow;
      }

  -- every slot at once
  pub map-store : (f : ℕ → ℕ) (s : ObjectStore) (g : Slot → Slot) → ((x : Slot) → Alike x (g x)) → StoreOk n ts f s → StoreOk n ts f (with_slots s (map g s.slots))
  map-store f s g e h = alike_store f s (map g s.slots) (pairs_map Alike g e s.slots) h

  -- one slot
  pub put-store : (f : ℕ → ℕ) (s : ObjectStore) (o : ℕ) (v : Slot) → Alike (slot_at s.slots o) v → StoreOk n ts f s → StoreOk n ts f (with_slots s (slot_put s.slots o v))
  put-store f s o v e h = alike_store f s (slot_put s.slots o v) (pairs_put Alike alike_same s.slots o v e) h

  -- the finding anew, still down
  pub overflow-store : (f : ℕ → ℕ) (s : ObjectStore) (b : Bool) → b ≡ false → StoreOk n ts f s → StoreOk n ts f (with_overflow s b)
  unfolding kept_names
  overflow-store f s b e h = record {
    ob = record { counts = h.ob.counts; kept = record { thread = h.ob.kept.thread; process = h.ob.kept.process }; chained = h.ob.chained; blanks = h.ob.blanks; ns = h.ob.ns; nw = h.ob.nw; ni = h.ob.ni };
    contents = h.contents;
    chains = h.chains;
    fits = record { slots = h.fits.slots; free = h.fits.free; waiters = h.fits.waiters; free_waiter = h.fits.free_waiter; ids = h.fits.ids; process = h.fits.process };
    full = h.full;
    overflow = e;
  }

-- ---- the state with such a store
pub store-parts : (k : Kernel) (s : ObjectStore) → StoreOk k.thread_count k.threads (names k.handles k.threads) s → Parts k → Parts (with_threads k k.threads s)
store-parts k s h p = record {
  ob = h.ob;
  contents = h.contents;
  chains = h.chains;
  table = p.table;
  threads = p.threads;
  tls = p.tls;
  store_fits = h.fits;
  table_fits = p.table_fits;
  nt = p.nt;
  threads_fit = p.threads_fit;
  status = p.status;
  thread_count = p.thread_count;
  current = p.current;
  next_tls = p.next_tls;
  next_guest = p.next_guest;
  clean = (p.clean.0, p.clean.1, h.full, h.overflow, p.clean.4, p.clean.5);
}
