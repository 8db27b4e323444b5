use Rattle.std.proofs.Common.{ℕ, ◌+◌, Option, subst, sym, ◌∙◌, slice_get}
use Rattle.fr_core.proofs.SettledLemmas.{offer_within, sight_within, some_interface, first_window}
use Rattle.fr_core.proofs.SettleLemmas.{each_node, offers_found}
use Rattle.fr_core.specs.Settling.{IfThere, IsFatedAt, IsOfferedAt, IsSeenAt, IsShownAt, WindowsAgree}
use Rattle.fr_core.specs.Walks.{FindsBelow, FindsPlace}
use Rattle.fr_schedule.specs.Descriptions.{Description}
use Rattle.fr_slots.specs.Numbers.{last_node}
use Rattle.fr_slots.specs.Parameters.{Parameters}
use Rattle.fr_core.proofs.settle.judge.Goals as goal

pub number_at-number-requires : goal.number_at-number-requires
number_at-number-requires c =
    let d = c.args.cluster.now in
    let is = c.args.interfaces.now in
    let rs = c.args.recorded.now in
    let windows = each_node (WindowsAgree is rs)
    (subst (λ (o : Option ℕ). FindsBelow (last_node + 1) (WindowsAgree is rs) o) c.in_default-window.is
    c.find_differences-window.ensures.windows) in
    let fates = subst (λ (e : Description). FindsPlace (IsFatedAt e rs) c.other_fates.result) c.in-Ok.ensures
    c.other_fates.ensures in
    let first = subst (λ (o : Option (ℕ × ℕ)). FindsPlace (λ n k. IsOfferedAt d rs n (slice_get is n) k) o)
    (sym c.in-Some-earlier.ensures)
    (offers_found d is rs c.find_differences-window.result.offer c.other_fates.result
    c.find_differences-window.ensures.offers fates) in
    offer_within d is rs c.in-Some-earlier.found.0 c.in-Some-earlier.found.1 windows first.0 first.2

pub returns-in-Some-earlier : goal.returns-in-Some-earlier
returns-in-Some-earlier c =
    let d = c.args.cluster.now in
    let is = c.args.interfaces.now in
    let rs = c.args.recorded.now in
    let n = c.in-Some-earlier.found.0 in
    let k = c.in-Some-earlier.found.1 in
    let windows = each_node (WindowsAgree is rs)
    (subst (λ (o : Option ℕ). FindsBelow (last_node + 1) (WindowsAgree is rs) o) c.in_default-window.is
    c.find_differences-window.ensures.windows) in
    let fates = subst (λ (e : Description). FindsPlace (IsFatedAt e rs) c.other_fates.result) c.in-Ok.ensures
    c.other_fates.ensures in
    let first = subst (λ (o : Option (ℕ × ℕ)). FindsPlace (λ m j. IsOfferedAt d rs m (slice_get is m) j) o)
    (sym c.in-Some-earlier.ensures)
    (offers_found d is rs c.find_differences-window.result.offer c.other_fates.result
    c.find_differences-window.ensures.offers fates) in (
      c.in_default.ensures,
      windows,
      first.1,
      first_window rs (IsOfferedAt d rs n (slice_get is n)) k c.number_at-number.result
          (offer_within d is rs n k windows first.0 first.2) first.2 c.number_at-number.ensures,
    )

pub number_at-number-requires-in-Some-sight : goal.number_at-number-requires-in-Some-sight
number_at-number-requires-in-Some-sight c =
    let d = c.args.cluster.now in
    let is = c.args.interfaces.now in
    let rs = c.args.recorded.now in
    let windows = each_node (WindowsAgree is rs)
    (subst (λ (o : Option ℕ). FindsBelow (last_node + 1) (WindowsAgree is rs) o) c.in_default-window.is
    c.find_differences-window.ensures.windows) in
    let first = subst (λ (o : Option (ℕ × ℕ)). FindsPlace (λ n k. IsSeenAt d rs n (slice_get is n) k) o)
    c.in-Some-sight.is
    (subst (λ (p : Parameters). FindsPlace (λ n k. IfThere (slice_get is n) (IsShownAt p rs n k))
    c.find_differences-window.result.sight) c.params.ensures.value
    c.find_differences-window.ensures.sights) in
    sight_within d is rs c.in-Some-sight.found.0 c.in-Some-sight.found.1 windows first.0 first.2

pub returns-in-Some-sight : goal.returns-in-Some-sight
returns-in-Some-sight c =
    let d = c.args.cluster.now in
    let is = c.args.interfaces.now in
    let rs = c.args.recorded.now in
    let n = c.in-Some-sight.found.0 in
    let k = c.in-Some-sight.found.1 in
    let windows = each_node (WindowsAgree is rs)
    (subst (λ (o : Option ℕ). FindsBelow (last_node + 1) (WindowsAgree is rs) o) c.in_default-window.is
    c.find_differences-window.ensures.windows) in
    let fates = subst (λ (e : Description). FindsPlace (IsFatedAt e rs) c.other_fates.result) c.in-Ok.ensures
    c.other_fates.ensures in
    let offers = subst (λ (o : Option (ℕ × ℕ)). FindsPlace (λ m j. IsOfferedAt d rs m (slice_get is m) j) o)
    (sym c.earlier.ensures ∙ c.in_default-earlier.is)
    (offers_found d is rs c.find_differences-window.result.offer c.other_fates.result
    c.find_differences-window.ensures.offers fates) in
    let first = subst (λ (o : Option (ℕ × ℕ)). FindsPlace (λ m j. IsSeenAt d rs m (slice_get is m) j) o)
    c.in-Some-sight.is
    (subst (λ (p : Parameters). FindsPlace (λ m j. IfThere (slice_get is m) (IsShownAt p rs m j))
    c.find_differences-window.result.sight) c.params.ensures.value
    c.find_differences-window.ensures.sights) in (
      c.in_default.ensures,
      windows,
      each_node (λ m. (j : ℕ) → IsOfferedAt d rs m (slice_get is m) j) offers,
      first.1,
      first_window rs (IsSeenAt d rs n (slice_get is n)) k c.number_at-number-in-Some-sight.result
          (sight_within d is rs n k windows first.0 first.2) first.2
          c.number_at-number-in-Some-sight.ensures,
    )

pub count_windows-windows-requires-clause-there : goal.count_windows-windows-requires-clause-there
count_windows-windows-requires-clause-there c = some_interface c.args.cluster.now c.args.interfaces.now
    c.params-params.ensures.lawful (c.in_default.ensures 0)
