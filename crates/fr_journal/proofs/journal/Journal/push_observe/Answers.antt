use Rattle.std.proofs.Common.{◌+◌, refl, arith}
use Rattle.fr_journal.specs.declared.entry.Entry.TheVariants.{Observe}
use Rattle.fr_journal.specs.Shortened.{most_seen_bytes}
use Rattle.fr_journal.specs.declared.journal.Journal.TheInside.{Inside}
use Rattle.fr_journal.proofs.ShortLemmas.{next-place, counts-fill, kept-pushed, slot-room, slot-pushed}
use Rattle.fr_journal.proofs.journal.Journal.push_observe.Goals as goal

pub push_reserved-requires : goal.push_reserved-requires
push_reserved-requires c =
    let within = slot-room c.self.inside _ c.self.invariant c.self.view_is c.requires.room in
    omega (arith, within, counts-fill c.self.inside c.self.invariant)

pub invariant_of-self : goal.invariant_of-self
invariant_of-self c =
    slot-pushed c.self.inside _ c.shortened_observe-short.result
    (Observe c.args.window c.args.a.now c.args.b.now) c.self.invariant (record {
      host_limit_is = refl;
      slot_limit_is = refl;
      shorts_are = c.push_reserved.ensures.items;
      shorts_room = c.push_reserved.ensures.capacity;
      knows = rw c.shortened_observe-short.ensures.mark refl;
      shortened = c.shortened_observe-short.ensures.entry;
      pool_room = c.shortened_observe-short.ensures.room;
    }) refl refl refl (next-place c.self.inside _ c.len-place.result c.self.view_is c.len-place.ensures.value)
    (slot-room c.self.inside _ c.self.invariant c.self.view_is c.requires.room)

pub returns : goal.returns
returns c =
    let n : Inside = record {
      host_limit = c.self.inside.host_limit;
      slot_limit = c.self.inside.slot_limit;
      host_count = c.self.inside.host_count;
      slot_count = c.self.inside.slot_count + 1;
      last_mark = c.len-place.result;
      shorts = c.push_reserved.new.self;
      pool = c.shortened_observe-short.new.pool;
    } in
    kept-pushed c.self.inside n _ most_seen_bytes c.shortened_observe-short.result
    (Observe c.args.window c.args.a.now c.args.b.now) c.self.invariant (record {
      host_limit_is = refl;
      slot_limit_is = refl;
      shorts_are = c.push_reserved.ensures.items;
      shorts_room = c.push_reserved.ensures.capacity;
      knows = rw c.shortened_observe-short.ensures.mark refl;
      shortened = c.shortened_observe-short.ensures.entry;
      pool_room = c.shortened_observe-short.ensures.room;
    }) c.self.view_is
