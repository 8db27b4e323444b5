-- Links that a node without a plan hasn't.
use Rattle.std.proofs.Common.{◌≡◌, ℕ, ◌==◌, Bool, true, false, List, [], ◌++◌, None, refl, sym, ap, ◌∙◌, append-nil}
use Rattle.std.specs.Prelude.{if◌then◌else◌, slice_get, Option}
use Rattle.fr_schedule.specs.Descriptions.{Description}
use Rattle.fr_slots.specs.declared.channel.Channel.{Channel}
use Rattle.fr_slots.specs.Plans.{Plan}
use Rattle.fr_links.specs.declared.links.Link.{Link}
use Rattle.fr_links.specs.declared.links.Owner.{Owner}
use Rattle.fr_links.specs.Links.{begun_links, owner_links}

both_empty : (b : Bool) → ◌≡◌ {A = List Link} (if b then [] else []) []
both_empty true = refl
both_empty false = refl

pub begun_none : (d : Description) (slot : ℕ) (channel : Channel) (base : ℕ) (o : Owner) (links : List Link)
    → slice_get d.plans o.node ≡ None → links ≡ links ++ begun_links d slot channel base o
begun_none d slot channel base o links none =
    sym (ap (λ (found : List Link). links ++ found)
    (ap (λ (plan : Option Plan). if o.cycles.base == base then owner_links d.params slot channel o plan else []) none
    ∙ both_empty (o.cycles.base == base)) ∙ append-nil links)
