-- What the laws of the calls have in common: their premises, which answers are accepted, a table and a store anew, a new object, and what a call does with the object of a handle.
use Rattle.std.specs.Prelude.{◌≡◌, refl, false, ◌⊎◌, ℕ, ◌≤◌, ◌<◌}
use Rattle.std.proofs.Common.{sym, subst, ◌∙◌, inl, inr, arith}
use Rattle.laws.specs.Count.{count_all}
use Rattle.types.specs.declared.object.KObject.{KObject}
use Rattle.types.specs.declared.object.HandleTable.{HandleTable}
use Rattle.types.specs.declared.object.ObjectStore.{ObjectStore}
use Rattle.types.specs.declared.kernel.Kernel.{Kernel}
use Rattle.types.specs.Object.{kind_number, head_of}
use Rattle.sound.specs.View.{lists, object_at}
use Rattle.sound.specs.Objects.{names, ContentOk}
use Rattle.sound.specs.Sound.{Sound}
use Rattle.object.specs.Slots.{content}
use Rattle.object.specs.Store.{insert}
use Rattle.object.specs.Handles.{give}
use Rattle.soundness.specs.Objects.{ok_as, insert-full}
use Rattle.soundness.specs.Same.{insert-same}
use Rattle.soundness.specs.Records.{chains-same}
use Rattle.soundness.specs.Each.{each-insert}
use Rattle.soundness.specs.Handles.{TableOk, BothOk, make-ok}
use Rattle.soundness.specs.Fits.{Word, KeepsFit, TableFits, insert-fits, give-fits}
use Rattle.soundness.specs.Whole.{Parts, sound-parts, parts-sound, names_of}
use Rattle.soundness.specs.Creates.{StoreOk, parts-store}
use Rattle.passing.specs.Alike.{Like, store-parts}
use Rattle.passing.specs.Signal.{content-store}
use Rattle.svc.specs.declared.Registers.{Registers}
use Rattle.svc.specs.declared.Served.{Served}
use Rattle.svc.specs.Call.{answers, invalid_handle, with_objects, with_handles, resolved, create_object}
use Rattle.calling.specs.Resolves.{resolved-parts}

-- ---- premises
-- the registers are words
pub record RegistersFit (r : Registers) : Type 0 where
  pub r0 : Word r.r0
  pub r1 : Word r.r1
  pub r2 : Word r.r2
  pub r3 : Word r.r3
  pub r4 : Word r.r4
  pub r5 : Word r.r5

-- the call found nothing: something that did not fit, a sum that overflowed
pub record Clear (k : Kernel) : Type 0 where
  pub full : k.full ≡ false
  pub overflow : k.overflow ≡ false
  pub store_full : k.objects.full ≡ false
  pub store_overflow : k.objects.overflow ≡ false
  pub table_full : k.handles.full ≡ false
  pub table_overflow : k.handles.overflow ≡ false

-- ---- answers: 0, 16, 17 and 18 are accepted
abbrev pub Accepted : ℕ → Type 0
Accepted n = (n ≡ 0) ⊎ ((16 ≤ n) × (n ≤ 18))

-- ---- table and store anew
module _ (k : Kernel) (p : Parts k) (t : HandleTable) (s : ObjectStore) where
  pub both-parts : TableOk t → TableFits t → t.full ≡ false → t.overflow ≡ false → StoreOk k.thread_count k.threads (names t k.threads) s → Parts (with_handles k t s)
  both-parts a b f g h = record {
    ob = h.ob;
    contents = h.contents;
    chains = h.chains;
    table = a;
    threads = p.threads;
    tls = p.tls;
    store_fits = h.fits;
    table_fits = b;
    nt = p.nt;
    threads_fit = p.threads_fit;
    status = p.status;
    thread_count = p.thread_count;
    current = p.current;
    next_tls = p.next_tls;
    next_guest = p.next_guest;
    clean = (p.clean.0, p.clean.1, h.full, h.overflow, f, g);
  }

-- the names of handles and lists apart
abbrev pub listed : Kernel → ℕ → ℕ
listed k i = count_all i (lists k.threads)

-- ---- a new object with a handle
pub record NewOk (k : Kernel) (v : KObject) : Type 0 where
  pub kind : 0 < kind_number v
  pub head : head_of v ≡ 0
  pub content : ContentOk k.thread_count k.threads v
  pub fits : KeepsFit v

module _ (k : Kernel) (v : KObject) (q : NewOk k v) (p : Parts k) where
  make-parts : Clear (with_handles k (give k.handles k.objects.free) (insert k.objects v)) → Parts (with_handles k (give k.handles k.objects.free) (insert k.objects v))
  make-parts c =
      let t : HandleTable = give k.handles k.objects.free in
      let s : ObjectStore = insert k.objects v in
      let b : BothOk (record { table = t; store = s }) (listed k) =
      make-ok k.handles k.objects v (listed k) p.table (λ e. ok_as _ (λ i z. omega (arith, names_of k i)) p.ob) q.kind q.head c.store_full c.table_full c.table_overflow in
      both-parts k p t s b.table (give-fits k.handles k.objects.free p.store_fits.free p.table_fits) c.table_full c.table_overflow
      (record {
        ob = ok_as _ (λ i z. omega (arith, names_of (with_handles k t s) i)) b.store;
        contents = each-insert (ContentOk k.thread_count k.threads) k.objects v q.content p.contents;
        chains = chains-same k.thread_count k.objects s (insert-same k.objects v (names k.handles k.threads) q.head (insert-full k.objects v c.store_full).1 p.ob) p.chains;
        fits = insert-fits k.objects p.store_fits v q.fits;
        full = c.store_full;
        overflow = c.store_overflow;
      })

pub create_object-sound : (k : Kernel) (v : KObject) → NewOk k v → Sound k → Clear (create_object k v).kernel → Sound (create_object k v).kernel
unfolding create_object
create_object-sound k v q s c = parts-sound _ (make-parts k v q (sound-parts k s) c)

pub create_object-answers : (k : Kernel) (v : KObject) → Accepted (create_object k v).answer
unfolding create_object
create_object-answers k v = inl refl

-- ---- what a call does from the state k on, in which the object of its handle is there
pub record Keeps (k : Kernel) (v : Served) : Type 0 where
  pub parts : Parts k → Clear v.kernel → Parts v.kernel
  -- the store's findings are left alone
  pub full : v.kernel.objects.full ≡ k.objects.full
  pub overflow : v.kernel.objects.overflow ≡ k.objects.overflow
  pub accepted : Accepted v.answer

pub refused : (k : Kernel) → Keeps k (answers invalid_handle k)
refused k = record { parts = λ p c. p; full = refl; overflow = refl; accepted = inr (omega arith, omega arith) }

-- one object anew, alike
module _ (k : Kernel) (p : Parts k) (o : ℕ) (x y : KObject) (e : object_at k.objects o ≡ x) where
  pub content-parts : Like k.thread_count k.threads x y → Parts (with_objects k (content k.objects o y))
  content-parts l =
      store-parts k (content k.objects o y)
      (content-store k.thread_count k.threads (names k.handles k.threads) k.objects o y (subst (λ (z : KObject). Like k.thread_count k.threads z y) (sym e) l) (parts-store k p)) p

-- after the handle h was resolved
pub resolved-sound : (k : Kernel) (h : ℕ) (v : Served) → Keeps (with_objects k (resolved k h).store) v → Sound k → Clear v.kernel → Sound v.kernel
resolved-sound k h v d s c = parts-sound v.kernel (d.parts (resolved-parts k (sound-parts k s) h (sym d.full ∙ c.store_full)) c)
