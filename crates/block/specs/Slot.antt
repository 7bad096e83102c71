-- An object slot as 40 bytes.
use Rattle.std.specs.Prelude.{cond, List, [], ◌∷◌, ◌++◌, ℕ, eqb, get_or}
use mir.Val.{bool_byte}
use Rattle.codec.specs.Bytes.{bytes}
use Rattle.codec.specs.Layout.{dec_as}
use Rattle.codec.specs.Groups.{four_bytes, two_bytes}
use Rattle.types.specs.declared.object.KObject.{KObject}
use Rattle.types.specs.declared.object.KObject.TheVariants.{Free, Thread, Event, Mutex, Semaphore, Timer, AddressArbiter, Process, ResourceLimit}
use Rattle.types.specs.declared.object.Slot.{Slot}
use Rattle.types.specs.declared.sync.Event as ev
use Rattle.types.specs.declared.sync.Mutex as mu
use Rattle.types.specs.declared.sync.Timer as ti
use Rattle.types.specs.Thread.{option_flag, option_value, option_of, tick_value, tick_option}
use Rattle.types.specs.Sync.{reset_number, reset_from_raw}
use Rattle.block.specs.declared.slot.ObjectWords.{ObjectWords}

abbrev pub words : ℕ → ℕ → ℕ → ℕ → ℕ → ℕ → ObjectWords
words k a b c x y = record { kind = k; a = a; b = b; c = c; x = x; y = y }

abbrev pub event_words : ev.Event → ObjectWords
event_words e = words 2 (reset_number e.reset_type) (bool_byte e.signaled) 0 0 0

abbrev pub mutex_words : mu.Mutex → ObjectWords
mutex_words m = words 3 (option_flag m.owner) (option_value m.owner) m.lock_count 0 0

abbrev pub timer_words : ti.Timer → ObjectWords
timer_words t = words 5 (reset_number t.reset_type) (bool_byte t.signaled) (option_flag t.fire_at)
    (tick_value t.fire_at) t.interval.0

-- what a kind does not have is 0
abbrev pub object_words : KObject → ObjectWords
object_words (Free n) = words 0 n 0 0 0 0
object_words (Thread t) = words 1 t 0 0 0 0
object_words (Event e) = event_words e
object_words (Mutex m) = mutex_words m
object_words (Semaphore s) = words 4 s.count s.max_count 0 0 0
object_words (Timer t) = timer_words t
object_words (AddressArbiter a) = words 6 a.waiters 0 0 0 0
object_words Process = words 7 0 0 0 0 0
object_words ResourceLimit = words 8 0 0 0 0 0

abbrev pub event_of : ObjectWords → ev.Event
event_of w = record { reset_type = reset_from_raw w.a; signaled = eqb w.b 1 }

abbrev pub mutex_of : ObjectWords → mu.Mutex
mutex_of w = record { owner = option_of w.a w.b; lock_count = w.c }

abbrev pub timer_of : ObjectWords → ti.Timer
timer_of w = record { reset_type = reset_from_raw w.a; signaled = eqb w.b 1; fire_at = tick_option w.c w.x; interval = record { 0 = w.y } }

-- an unknown kind reads as a dead slot, and question 2 refuses it
abbrev pub object_of : ObjectWords → KObject
object_of w =
    cond (eqb w.kind 1) (Thread w.a)
    (cond (eqb w.kind 2) (Event (event_of w))
    (cond (eqb w.kind 3) (Mutex (mutex_of w))
    (cond (eqb w.kind 4) (Semaphore (record { count = w.a; max_count = w.b }))
    (cond (eqb w.kind 5) (Timer (timer_of w))
    (cond (eqb w.kind 6) (AddressArbiter (record { waiters = w.a }))
    (cond (eqb w.kind 7) Process
    (cond (eqb w.kind 8) ResourceLimit
    (Free w.a))))))))

abbrev pub slot_w : List ℕ
slot_w = 4 ∷ 4 ∷ 4 ∷ 4 ∷ 4 ∷ 4 ∷ 8 ∷ 8 ∷ []

-- kind, refcount, mark, and what the object holds
abbrev pub slot_list : ObjectWords → ℕ → ℕ → List ℕ
slot_list w r p = w.kind ∷ r ∷ p ∷ w.a ∷ w.b ∷ w.c ∷ w.x ∷ w.y ∷ []

abbrev pub slot_fields : Slot → List ℕ
slot_fields x = slot_list (object_words x.object) x.refcount (bool_byte x.pulsed)

abbrev pub slot_words : List ℕ → ObjectWords
slot_words vs = words (get_or vs 0 0) (get_or vs 3 0) (get_or vs 4 0) (get_or vs 5 0) (get_or vs 6 0) (get_or vs 7 0)

abbrev pub slot_of : List ℕ → Slot
slot_of vs = record {
  object = object_of (slot_words vs);
  refcount = get_or vs 1 0;
  pulsed = eqb (get_or vs 2 0) 1;
}

abbrev pub enc_slot_words : ObjectWords → ℕ → ℕ → List ℕ
enc_slot_words w r p = four_bytes (record { 0 = w.kind; 1 = r; 2 = p; 3 = w.a }) ++ (two_bytes (record { 0 = w.b; 1 = w.c }) ++ (bytes 8 w.x ++ bytes 8 w.y))

unfoldable pub enc_slot : Slot → List ℕ
enc_slot x = enc_slot_words (object_words x.object) x.refcount (bool_byte x.pulsed)

unfoldable pub dec_slot : List ℕ → Slot
dec_slot s = slot_of (dec_as slot_w s 0)
