-- Collecting the result of a wait keeps a state sound.
use Rattle.std.specs.Prelude.{◌≡◌, refl, Option, Some, None, ℕ}
use Rattle.types.specs.declared.kernel.Kernel.{Kernel}
use Rattle.sound.specs.View.{thread_at}
use Rattle.sound.specs.Objects.{Live}
use Rattle.sound.specs.Sound.{Sound}
use Rattle.thread.specs.Thread.{with_result}
use Rattle.soundness.specs.Fits.{z4}
use Rattle.soundness.specs.Whole.{Parts, sound-parts, parts-sound}
use Rattle.passing.specs.Threads.{live-ok, live-widths, thread-parts}
use Rattle.passing.specs.Switch.{current-live}
use Rattle.svc.specs.Collect.{collect_as, collect}

collect-as : (k : Kernel) (p : Parts k) (c : Option ℕ) → k.current_thread ≡ c → Parts (collect_as c k)
collect-as k p None e = p
collect-as k p (Some c) e =
    let live : Live k.threads c = current-live k p c e in
    let u = live-ok k p c live in
    let w = live-widths k p c live in
    thread-parts k p c live (with_result (thread_at k.threads c) None None)
    (record {
      ok = record { priority = u.priority; run = u.run; list = u.list; only = u.only };
      live = live;
      tls = refl;
      widths = record { own = w.own; wait = w.wait; index = z4; since = w.since };
    }) (λ o z. refl)

pub collect-sound : (k : Kernel) → Sound k → Sound (collect k)
unfolding collect
collect-sound k s = parts-sound _ (collect-as k (sound-parts k s) k.current_thread refl)
