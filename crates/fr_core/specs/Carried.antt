-- The data that a controller carries from one of its steps to the next (project-defined). In each window it looks,
-- fetches, puts, takes and observes, in this order.
use Rattle.fr_core.specs.declared.controller.Due.{Due}
use Rattle.fr_core.specs.declared.controller.Due.TheVariants as due
use Rattle.fr_interface.specs.declared.interface.Offer.{Offer}
use Rattle.fr_slots.specs.Windows.{Opportunity}
use Rattle.fr_status.specs.Forms.{Seen}

-- By the step that is due:
-- - look: nothing;
-- - fetch: the open window;
-- - put: the window, and the bytes that its interface handed out;
-- - take: the window, whose offer was put;
-- - observe: the window, and the observations on A and on B.
pub data Carried : Type 0 where
  Idle : Carried
  Knows : Opportunity → Carried
  Offers : Opportunity → Offer → Carried
  Waits : Opportunity → Carried
  Took : Opportunity → Seen → Seen → Carried

-- the data for the step that is due, in the room for an offer and for observations
abbrev pub carried_of : Due → Offer → Seen → Seen → Carried
carried_of due.Look offer a b = Idle
carried_of (due.Fetch window) offer a b = Knows window
carried_of (due.Put window) offer a b = Offers window offer
carried_of (due.Take window) offer a b = Waits window
carried_of (due.Observe window) offer a b = Took window a b
