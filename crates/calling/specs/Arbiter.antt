-- A new address arbiter keeps a state sound: its chain is empty.
use Rattle.std.specs.Prelude.{refl}
use Rattle.std.proofs.Common.{arith}
use Rattle.types.specs.declared.object.KObject.TheVariants.{AddressArbiter}
use Rattle.types.specs.declared.kernel.Kernel.{Kernel}
use Rattle.sound.specs.Sound.{Sound}
use Rattle.soundness.specs.Fits.{z4, z8}
use Rattle.svc.specs.Arbiter.{create_address_arbiter}
use Rattle.calling.specs.Call.{Clear, Accepted, NewOk, create_object-sound, create_object-answers}

arbiter-new : (k : Kernel) → NewOk k (AddressArbiter (record { waiters = 0 }))
arbiter-new k = record { kind = omega arith; head = refl; content = tt; fits = record { kind = omega arith; a = z4; b = z4; c = z4; x = z8; y = z8 } }

pub create_address_arbiter-sound : (k : Kernel) → Sound k → Clear (create_address_arbiter k).kernel → Sound (create_address_arbiter k).kernel
unfolding create_address_arbiter
create_address_arbiter-sound k s c = create_object-sound k _ (arbiter-new k) s c

pub create_address_arbiter-answers : (k : Kernel) → Accepted (create_address_arbiter k).answer
unfolding create_address_arbiter
create_address_arbiter-answers k = create_object-answers k (AddressArbiter (record { waiters = 0 }))
