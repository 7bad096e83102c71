-- Question 2 as a whole, on a state: the test of all clauses, and what a sound state is. A block is also asked to be the encoding of what it decodes to.
use Rattle.std.specs.Prelude.{◌≡◌, refl, Bool, List, [], ◌∷◌, ℕ, ◌<◌}
use native.Mathlib.Omega.{arith}
use Rattle.laws.specs.Logic.{◌and◌}
use Rattle.laws.specs.Count.{count, ind-other}
use Rattle.types.specs.declared.kernel.Kernel.{Kernel}
use Rattle.block.proofs.Fits.{StateFits}
use Rattle.sound.specs.Threads.{Zeros, threads?, ThreadsOk}
use Rattle.sound.specs.Tls.{tls?, TlsOk}
use Rattle.sound.specs.Handles.{rising?, Rising}
use Rattle.sound.specs.Objects.{names, kept_in?, held?, Held, kept?, KeptOk, contents?, ContentOk, Each}
use Rattle.sound.specs.Records.{records?, RecordsOk}

-- every clause of question 2 but those that the canonical test of the block asks
unfoldable pub state? : Kernel → Bool
state? k =
    threads? k.thread_count k.current_thread k.threads
    and (tls? k.threads k.next_tls_slot
    and (rising? k.handles.count 0x10000 k.handles.entries k.handles.next.0
    and ((kept_in? k.objects and held? k.objects (names k.handles k.threads))
    and (kept? k.objects
    and (contents? k.thread_count k.threads k.objects
    and records? k.thread_count k.objects)))))

pub record Sound (k : Kernel) : Type 0 where
  -- every number fits its field, and nothing was found
  pub fits : StateFits k
  pub threads : ThreadsOk k.thread_count k.current_thread k.threads
  pub tls : TlsOk k.threads k.next_tls_slot
  pub handles : Rising k.handles.count 0x10000 k.handles.entries k.handles.next.0
  pub counts : Held k.objects (names k.handles k.threads)
  pub kept : KeptOk k.objects
  pub contents : Each (ContentOk k.thread_count k.threads) k.objects
  pub records : RecordsOk k.thread_count k.objects

-- ---- no list names a number past the last slot
pub zeros_count : (o : ℕ) (l : List ℕ) → 0 < o → Zeros l → count o l ≡ 0
unfolding count
zeros_count o [] p z = refl
zeros_count o (x ∷ xs) p z = omega (arith, ind-other x o (omega (arith, z.0)), zeros_count o xs p z.1)
