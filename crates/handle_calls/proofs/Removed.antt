-- An entry taken out of the handles of a block, those after it moved up one by one. Assumes nothing.
use Rattle.std.proofs.lemmas.Grind.{common_steps}
use mathlib.Core.Path.{◌≡◌, refl, sym, ap, subst, ◌∙◌}
use mathlib.Core.List.{List, ◌++◌}
use Prim.Native.Nat.{ℕ, ◌+◌, ◌-◌, ◌*◌, ◌<◌}
use native.Mathlib.Numerals.{add-one}
use native.Mathlib.Omega.{arith}
use lib.ListN.{length, get_or, set, take, drop}
use Rattle.laws.specs.All.{all_set, all_get}
use Rattle.types.specs.declared.object.HandleEntry.{HandleEntry}
use Rattle.types.specs.declared.kernel.Kernel.{Kernel}
use Rattle.block.specs.declared.Head.{Head}
use Rattle.block.specs.Table.{dec_entry}
use Rattle.block.specs.Tables.{row_at}
use Rattle.block.specs.Block.{head_words, dec_block}
use Rattle.block.proofs.Fits.{EntryFits, StateFits}
use Rattle.object.specs.Handles.{no_entry, without, taken_out}
use Rattle.object.proofs.Laws.{without_split, without_move, without-last}
use Rattle.soundness.specs.Fits.{z4}
use Rattle.rows.specs.Rows.{entry_put, head_put}
use Rattle.rows.specs.Holds.{Holds, with_table, with_entries, put-entry, put-head}
use Rattle.release.specs.Encoded.{Encoded, encoded-holds, held-state, held-encoded}

-- an entry as it is read
pub entry-is : (b : List ℕ) (i : ℕ) → i < 256 → dec_entry (take 8 (drop (10368 + i * 8) b)) ≡ get_or (dec_block b).handles.entries i no_entry
unfolding dec_block
entry-is b i h = row_at dec_entry 8 no_entry 256 b 10368 i h

-- other entries in a state that fits
entries_fit : (k : Kernel) → StateFits k → (i : ℕ) (x : HandleEntry) → EntryFits x → length (set k.handles.entries i x) ≡ 256
    → StateFits (with_table k (with_entries k.handles (set k.handles.entries i x)))
entries_fit k f i x g n = record {
  head = f.head;
  nt = f.nt;
  threads = f.threads;
  ns = f.ns;
  slots = f.slots;
  ne = n;
  entries = all_set EntryFits k.handles.entries i g f.entries;
  nw = f.nw;
  waiters = f.waiters;
  ni = f.ni;
  thread_objects = f.thread_objects;
  clean = f.clean;
}

-- from the state k on, for the entry at place p: those before j are where they belong
module _ (k : Kernel) (p : ℕ) where
  pub record Removing (j : ℕ) (b : List ℕ) : Type 0 where
    pub encoded : Encoded b
    pub state : dec_block b ≡ with_table k (with_entries k.handles (dec_block b).handles.entries)
    pub goal : take j (dec_block b).handles.entries ++ without (drop j (dec_block b).handles.entries) 0 ≡ without k.handles.entries p

  module _ (j : ℕ) (b : List ℕ) (g : Removing j b) where
    abbrev q : Kernel
    q = dec_block b

    abbrev es : List HandleEntry
    es = q.handles.entries

    abbrev putting : HandleEntry → Kernel
    putting x = with_table q (with_entries q.handles (set es j x))

    put_in : (x : HandleEntry) → Holds (entry_put b j x) (putting x)
    put_in x = put-entry (encoded-holds b g.encoded) j x

    -- the states differ in their entries alone
    state_as : (l : List HandleEntry) → with_table q (with_entries q.handles l) ≡ with_table k (with_entries k.handles l)
    state_as l = ap (λ (z : Kernel). with_table z (with_entries z.handles l)) g.state

    pub remove-more : j < 255 → (x : HandleEntry) → x ≡ get_or es (j + 1) no_entry → Removing (j + 1) (entry_put b j x)
    remove-more h x e =
        let n : length es ≡ 256 = g.encoded.fits.ne in
        let w : EntryFits x = subst EntryFits (sym e) (all_get EntryFits es (j + 1) no_entry (z4, (z4, tt)) g.encoded.fits.entries) in
        let o = put_in x in
        let f : StateFits (putting x) = entries_fit q g.encoded.fits j x w o.sizes.ne in
        let d : dec_block (entry_put b j x) ≡ putting x = held-state (entry_put b j x) (putting x) o f in
        let m : take (j + 1) (set es j x) ++ without (drop (j + 1) (set es j x)) 0 ≡ take j es ++ without (drop j es) 0 = rw (e, add-one j) (without_move es j no_entry (omega (arith, n))) in
        record {
          encoded = held-encoded (entry_put b j x) (putting x) o f;
          state = d ∙ state_as (set es j x) ∙ ap (λ (z : Kernel). with_table k (with_entries k.handles z.handles.entries)) (sym d);
          goal = ap (λ (z : Kernel). take (j + 1) z.handles.entries ++ without (drop (j + 1) z.handles.entries) 0) d ∙ m ∙ g.goal;
        }

    pub remove-end : j ≡ 255 → Holds (entry_put b 255 no_entry) (with_table k (with_entries k.handles (without k.handles.entries p)))
    remove-end h =
        let n : length es ≡ 256 = g.encoded.fits.ne in
        let m : set es 255 no_entry ≡ without k.handles.entries p = without-last es 255 n ∙ rw h at g.goal in
        subst (Holds (entry_put b 255 no_entry)) (state_as (set es 255 no_entry) ∙ ap (λ (l : List HandleEntry). with_table k (with_entries k.handles l)) m) (put-entry (encoded-holds b g.encoded) 255 no_entry)

pub remove-none : (b : List ℕ) → Encoded b → (p : ℕ) → Removing (dec_block b) p p b
remove-none b e p = record { encoded = e; state = refl; goal = without_split (dec_block b).handles.entries p }

-- one handle fewer; e is the block with the entry taken out
pub taken_out_lem : (e : List ℕ) (k : Kernel) (p : ℕ) → Holds e (with_table k (with_entries k.handles (without k.handles.entries p))) → (h : Head) → h ≡ head_words k → (n : ℕ) → n ≡ h.handle_count - 1
    → Holds (head_put e (record h { handle_count = n })) (with_table k (taken_out k.handles p))
taken_out_lem e k p g h eh n en = rw (en, eh) (put-head g (with_table k (taken_out k.handles p)) refl refl refl refl refl)

pub ruleset removes = (common_steps, entry-is, remove-none, remove-more)
