-- `close_handle` and `duplicate_handle` of svc.rs.
use Rattle.std.specs.Prelude.{eqb}
use Rattle.laws.specs.Logic.{pick}
use Rattle.types.specs.declared.kernel.Kernel.{Kernel}
use Rattle.object.specs.declared.handles.Both.{Both}
use Rattle.object.specs.declared.kept.Resolved.{Resolved}
use Rattle.object.specs.Handles.{create, close}
use Rattle.svc.specs.declared.Registers.{Registers}
use Rattle.svc.specs.declared.Served.{Served}
use Rattle.svc.specs.Call.{done, gives, answers, invalid_handle, with_objects, with_handles, resolved}

-- r0 handle; an unknown one is done, a pseudo-handle too
unfoldable pub close_handle : Kernel → Registers → Served
close_handle k r = let b : Both = close k.handles k.objects r.r0 in done (with_handles k b.table b.store)

-- r1 handle; r1 gets another for the same object
unfoldable pub duplicate_handle : Kernel → Registers → Served
duplicate_handle k r =
    let x : Resolved = resolved k r.r1 in
    let b : Both = create k.handles x.store x.object.0 in
    pick (eqb x.object.0 0)
    (answers invalid_handle (with_objects k x.store))
    (gives (with_handles k b.table b.store) k.handles.next.0)
