-- The frame of a node by the kept data is that of each world with its history.
use Rattle.std.proofs.Common.{◌≡◌, ℕ, ◌<◌, ◌≤◌, length, Option, None, get_or, refl, sym, ap, ◌∙◌, true}
use Rattle.std.proofs.lemmas.List.{get_or_past}
use Rattle.fr_core.specs.declared.event.Event.TheVariants.{Read, Pop}
use Rattle.fr_core.specs.Runs.{Answer}
use Rattle.fr_core.specs.Steps.{Steps}
use Rattle.fr_core.specs.Worlds.{interface_at, no_interface}
use Rattle.fr_endless.proofs.ReportLemmas.{history_got, unknown_place}
use Rattle.fr_endless.specs.Serving.{ReceivesAlike, TakesNextAlike}
use Rattle.fr_endless.specs.Taps.{ToldAlike, ToldState}
use Rattle.fr_interface.proofs.StandingLemmas.{answer-received, oldest-there}
use Rattle.fr_interface.specs.Standing.{Standing, oldest_at, received_at}
use Rattle.fr_interface.specs.State.{State, oldest_of, received_by}
use Rattle.fr_journal.specs.declared.entry.Arrival.{Arrival}
use Rattle.fr_live.specs.LiveWorlds.{ForEachWorld, LiveState}
use Rattle.fr_session.proofs.QueryLemmas.{none_held, none_oldest}
use Rattle.fr_session.specs.declared.noted.Noted.{Noted}
use Rattle.fr_session.specs.Latest.{is_fresh, place_of}
use Rattle.fr_session.specs.Replies.{receipt_text}
use Rattle.fr_session.specs.Sessions.{after_receipt}

module _ (l : LiveState) (n : ℕ) where
  pub held_same : (h : Standing) (buffer : ℕ) → n < length l.interfaces → h ≡ get_or l.interfaces n h
      → ForEachWorld l (λ w. received_at h buffer ≡ received_by (interface_at w n) buffer)
  held_same h buffer lt at w is =
      answer-received h (interface_at w n) buffer
      (history_got l.interfaces w.interfaces n h is.leads.interfaces_are lt at)

  pub oldest_same : (h : Standing) → n < length l.interfaces → h ≡ get_or l.interfaces n h
      → ForEachWorld l (λ w. oldest_at h ≡ oldest_of (interface_at w n))
  oldest_same h lt at w is =
      oldest-there h (interface_at w n) (history_got l.interfaces w.interfaces n h is.leads.interfaces_are lt at)

  unknown_is : length l.interfaces ≤ n → ForEachWorld l (λ w. interface_at w n ≡ no_interface)
  unknown_is beyond w is = get_or_past w.interfaces n no_interface (unknown_place l n beyond w is)

  pub held_none : (buffer : ℕ) → length l.interfaces ≤ n
      → ForEachWorld l (λ w. None ≡ received_by (interface_at w n) buffer)
  held_none buffer beyond w is =
      sym (ap (λ (s : State). received_by s buffer) (unknown_is beyond w is) ∙ none_held buffer)

  pub oldest_none : length l.interfaces ≤ n → ForEachWorld l (λ w. None ≡ oldest_of (interface_at w n))
  oldest_none beyond w is = sym (ap oldest_of (unknown_is beyond w is) ∙ none_oldest)

module _ (old new : ToldState) (noted : Noted) (node task : ℕ) (arrival : Option Arrival) (answer : Answer) where
  pub received_so : (buffer : ℕ) (notes : Noted) → ForEachWorld old.live
      (λ w. arrival ≡ received_by (interface_at w node) buffer)
      → ToldAlike old (λ w v. Steps w (Read node task buffer) answer v) new
      → notes ≡ after_receipt noted (place_of node buffer) arrival answer
      → ReceivesAlike old noted node task buffer
      (receipt_text (is_fresh noted.latest (place_of node buffer) arrival) arrival answer) new notes
  received_so buffer notes held steps notes_are s w is =
      let got = steps s w is in
      let place = place_of node buffer in
      let same : arrival ≡ received_by (interface_at w node) buffer = held w is.leads in (
        got.0,
        (
          answer,
          got.1,
          ap (λ (a : Option Arrival). receipt_text (is_fresh noted.latest place a) a answer) same,
          notes_are ∙ ap (λ (a : Option Arrival). after_receipt noted place a answer) same,
        ),
        got.2,
      )

  pub next_so : ForEachWorld old.live (λ w. arrival ≡ oldest_of (interface_at w node))
      → ToldAlike old (λ w v. Steps w (Pop node task) answer v) new
      → TakesNextAlike old noted node task (receipt_text true arrival answer) new noted
  next_so oldest steps s w is =
      let got = steps s w is in (
        got.0,
        (
          answer,
          got.1,
          ap (λ (a : Option Arrival). receipt_text true a answer) (oldest w is.leads),
          refl,
        ),
        got.2,
      )
