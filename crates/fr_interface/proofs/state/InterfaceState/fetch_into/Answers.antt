use Rattle.fr_interface.proofs.state.InterfaceState.fetch_into.Goals as goal

pub no_offer-no_a-requires : goal.no_offer-no_a-requires
no_offer-no_a-requires c = c.is_idle.ensures.on_a c.if-is_idle.true

pub no_offer-no_b-requires : goal.no_offer-no_b-requires
no_offer-no_b-requires c = c.is_idle.ensures.on_b c.if-is_idle.true
