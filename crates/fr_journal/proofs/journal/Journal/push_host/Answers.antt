use Rattle.std.proofs.Common.{◌≡◌, ◌+◌, refl, ap, ◌∙◌, arith, rules}
use Rattle.fr_frame.specs.Payload.{most_payload_bytes}
use Rattle.fr_journal.specs.declared.journal.Journal.TheInside.{Inside}
use Rattle.fr_journal.specs.Entries.{is_host}
use Rattle.fr_journal.proofs.MarkLemmas.{host_knows}
use Rattle.fr_journal.proofs.ShortLemmas.{counts-fill, kept-pushed, host-room, host-pushed}
use Rattle.fr_journal.proofs.journal.Journal.push_host.Goals as goal

pub push_reserved-requires : goal.push_reserved-requires
push_reserved-requires c =
    let within = host-room c.self.inside _ c.self.invariant c.self.view_is c.requires.room in
    omega (arith, within, counts-fill c.self.inside c.self.invariant)

pub invariant_of-self : goal.invariant_of-self
invariant_of-self c =
    host-pushed c.self.inside _ c.shortened_host-short.result c.args.entry
    c.self.invariant (record {
      host_limit_is = refl;
      slot_limit_is = refl;
      shorts_are = c.push_reserved.ensures.items;
      shorts_room = c.push_reserved.ensures.capacity;
      knows = host_knows c.shortened_host-short.new.pool.items c.shortened_host-short.result
          (λ mark. mark ≡ c.self.inside.last_mark)
          (ap is_host c.shortened_host-short.ensures.entry.entry_is ∙ search (rules, c.requires.kind));
      shortened = c.shortened_host-short.ensures.entry;
      pool_room = c.shortened_host-short.ensures.room;
    }) (search (rules, c.requires.kind)) refl refl refl
    (host-room c.self.inside _ c.self.invariant c.self.view_is c.requires.room)

pub returns : goal.returns
returns c =
    let n : Inside = record {
      host_limit = c.self.inside.host_limit;
      slot_limit = c.self.inside.slot_limit;
      host_count = c.self.inside.host_count + 1;
      slot_count = c.self.inside.slot_count;
      last_mark = c.self.inside.last_mark;
      shorts = c.push_reserved.new.self;
      pool = c.shortened_host-short.new.pool;
    } in
    kept-pushed c.self.inside n _ most_payload_bytes c.shortened_host-short.result c.args.entry
    c.self.invariant (record {
      host_limit_is = refl;
      slot_limit_is = refl;
      shorts_are = c.push_reserved.ensures.items;
      shorts_room = c.push_reserved.ensures.capacity;
      knows = host_knows c.shortened_host-short.new.pool.items c.shortened_host-short.result
          (λ mark. mark ≡ c.self.inside.last_mark)
          (ap is_host c.shortened_host-short.ensures.entry.entry_is ∙ search (rules, c.requires.kind));
      shortened = c.shortened_host-short.ensures.entry;
      pool_room = c.shortened_host-short.ensures.room;
    }) c.self.view_is
