-- The answer to words follows from a parse, since the commands are of the kind for which `clap` reports all faults.
use Rattle.std.proofs.Common.{◌≡◌, [], ◌∷◌, List, Option, Some, None, Err, refl, ap, ap₂, sym, subst, ◌∙◌, arith, inl}
use Rattle.std.proofs.Common.{inr, Bool, true, false, ◌&&◌, ◌||◌, codes, is_some, option_map}
use Rattle.std.specs.Prelude.{IfSome, IfNone, option_and_then, if◌then◌else◌}
use Rattle.std.specs.Str.{bytes_eq}
use Rattle.std.specs.Option.{ok_or}
use Rattle.clap.specs.Values.{kind_of}
use Rattle.clap.specs.Words.{HasKind, IsAmong, Kinds, Row, Text, fault_of, first_of, is_simple, is_simple_and_free}
use Rattle.clap.specs.Words.{subcommand_of}
use Rattle.clap.specs.declared.error.Error.{Error}
use Rattle.clap.proofs.OnLiterals.{clap_on_literals}
use Rattle.fr_cli.specs.declared.view.ViewOrder.{ViewOrder}
use Rattle.fr_cli.specs.declared.view.ViewOrder.TheVariants as the_order
use Rattle.fr_cli.specs.declared.error.OrderError.{OrderError}
use Rattle.fr_cli.specs.declared.error.OrderError.TheVariants as refusal
use Rattle.fr_cli.specs.declared.view.Asked.{Asked}
use Rattle.fr_cli.specs.declared.view.Asked.TheVariants.{Reasons, Origins, Received}
use Rattle.fr_cli.specs.declared.view.Asked.TheVariants.{Outcome, Answers, Commits, Record, Windows, Heard, Trace}
use Rattle.fr_cli.specs.ViewOrders.{IsAnswerTo, IsOrder, IsScheduleBy, IsShowBy, asked_by, asks, channel_asked}
use Rattle.fr_cli.specs.ViewOrders.{cycle_asked, drawn_by, from_asked, has_schedule_by, has_show_by, matrix_of}
use Rattle.fr_cli.specs.ViewOrders.{IsLatencyBy, IsLinksBy, has_latency_by, has_links_by, node_asked, the_commands}
use Rattle.fr_cli.specs.ViewOrders.{viewer_asked, way_asked}
use Rattle.fr_cli.specs.ViewOrders.{window_asked}
use Rattle.fr_cli.specs.ViewOrders.{IsKeptBy, IsShowIf, IsStreamBy, has_kept_by, has_stream_by, is_endless, streamed_by}
use Rattle.fr_cli.proofs.CommandLemmas.{has_long_run_alike, has_run_alike}
use Rattle.fr_cli.specs.Commands.{IsNamed, cycles_in, is_true, most_in, order_error_of, word_in}

pub are_simple : is_simple the_commands ≡ true
unfolding clap_on_literals
are_simple = refl

pub are_free : is_simple_and_free the_commands ≡ true
unfolding clap_on_literals
are_free = refl

-- an error of `clap` is a fault of the words, or a failed allocation
pub refused_for : (words : List Text) (e : Error) → HasKind (fault_of the_commands words) e
    → IsAnswerTo words (Err (order_error_of (kind_of e)))
refused_for words e (inl memory) = rw memory tt
refused_for words e (inr among) = by (order_error_of (kind_of e)) (fault_of the_commands words) refl among
  where
    by : (given : OrderError) (kinds : Kinds) → fault_of the_commands words ≡ kinds → IsAmong (kind_of e) kinds
        → IsAnswerTo words (Err given)
    by refusal.Memory kinds are among = tt
    by refusal.Usage [] are among = absurd among
    by refusal.Usage (k ∷ ks) are among = inl (rw are (omega arith))

-- without a fault, the order that was found is the answer
pub taken_for : (words : List Text) (found : Option ViewOrder) → fault_of the_commands words ≡ []
    → IfSome found (IsOrder (subcommand_of the_commands words))
    → IfNone found (asks (subcommand_of the_commands words) ≡ false) → IsAnswerTo words (ok_or found refusal.Usage)
taken_for words (Some order) none told nothing = (none, told)
taken_for words None none told nothing = inr nothing

-- ---- a picture

-- two ways to the same words ask for a picture alike
pub has_alike : (f g : Text → Option Text) → ((id : Text) → f id ≡ g id) → has_schedule_by f ≡ has_schedule_by g
has_alike f g same =
    ap₂ (λ a b. a && b) (ap is_some (same (codes "FILE"))) (ap (λ w. is_some (cycle_asked w)) (same (codes "cycle")))

schedule_alike : (f g : Text → Option Text) → ((id : Text) → f id ≡ g id) → (o : ViewOrder) → IsScheduleBy f o
    → IsScheduleBy g o
schedule_alike f g same (the_order.Capture until_fault own) is = is
schedule_alike f g same (the_order.Frames until_fault all) is = is
schedule_alike f g same the_order.Why is = is
schedule_alike f g same the_order.Fifo is = is
schedule_alike f g same the_order.Help is = is
schedule_alike f g same (the_order.Latency file way) is = is
schedule_alike f g same (the_order.Links file) is = is
schedule_alike f g same (the_order.Show asked cluster scenario cycles) is = is
schedule_alike f g same (the_order.Stream asked cluster scenario cycles) is = is
schedule_alike f g same (the_order.Schedule file cycle) is =
    (sym (same (codes "FILE")) ∙ is.0, ap cycle_asked (sym (same (codes "cycle"))) ∙ is.1)

pub schedule_told : (entered : Option (Text × List Row)) (look : Text → Option Text) (found : Option ViewOrder)
    → IsNamed (codes "schedule") entered
    → ((id : Text) → look id ≡ word_in entered id) → IfSome found (IsScheduleBy look) → IfSome found (IsOrder entered)
schedule_told entered look None named same told = tt
schedule_told entered look (Some o) named same told = by o (schedule_alike look (word_in entered) same o told)
  where
    by : (o : ViewOrder) → IsScheduleBy (word_in entered) o → IsOrder entered o
    by (the_order.Capture until_fault own) is = absurd is
    by (the_order.Frames until_fault all) is = absurd is
    by the_order.Why is = absurd is
    by the_order.Fifo is = absurd is
    by the_order.Help is = absurd is
    by (the_order.Latency file way) is = absurd is
    by (the_order.Links file) is = absurd is
    by (the_order.Show asked cluster scenario cycles) is = absurd is
    by (the_order.Stream asked cluster scenario cycles) is = absurd is
    by (the_order.Schedule file cycle) is = (named, is)

-- a command of another name shows no run, with its history or without
picks_none : (b : Bool) → (if b then false else false) ≡ false
picks_none true = refl
picks_none false = refl

asks_nothing : (entered : Option (Text × List Row)) → IsNamed (codes "schedule") entered
    → has_schedule_by (word_in entered) ≡ false → asks entered ≡ false
asks_nothing None named lacks = cc named
asks_nothing (Some (name, rows)) named lacks =
    let is : name ≡ codes "schedule" = cc named in
    subst (λ (n : Text). asks (Some (n, rows)) ≡ false) (sym is)
    (ap₂ (λ shows asked. (shows || false || false || false || false || asked) || false || false)
    (picks_none (is_endless (λ id. first_of id rows))) lacks)

pub schedule_lacks : (entered : Option (Text × List Row)) (look : Text → Option Text) (found : Option ViewOrder)
    → IsNamed (codes "schedule") entered
    → ((id : Text) → look id ≡ word_in entered id) → IfNone found (has_schedule_by look ≡ false)
    → IfNone found (asks entered ≡ false)
schedule_lacks entered look (Some o) named same lacks = tt
schedule_lacks entered look None named same lacks = asks_nothing entered named
    (sym (has_alike look (word_in entered) same) ∙ lacks)

-- ---- latencies

-- two ways to the same words ask for latencies alike
pub latency_has_alike : (f g : Text → Option Text) → ((id : Text) → f id ≡ g id) → has_latency_by f ≡ has_latency_by g
latency_has_alike f g same =
    ap₂ (λ a b. a && b) (ap is_some (same (codes "FILE")))
    (ap₂ (λ s c. is_some (way_asked s c)) (same (codes "slot")) (same (codes "channel")))

latency_alike : (f g : Text → Option Text) → ((id : Text) → f id ≡ g id) → (o : ViewOrder) → IsLatencyBy f o
    → IsLatencyBy g o
latency_alike f g same (the_order.Capture until_fault own) is = is
latency_alike f g same (the_order.Frames until_fault all) is = is
latency_alike f g same the_order.Why is = is
latency_alike f g same the_order.Fifo is = is
latency_alike f g same the_order.Help is = is
latency_alike f g same (the_order.Links file) is = is
latency_alike f g same (the_order.Schedule file cycle) is = is
latency_alike f g same (the_order.Show asked cluster scenario cycles) is = is
latency_alike f g same (the_order.Stream asked cluster scenario cycles) is = is
latency_alike f g same (the_order.Latency file way) is = (
  sym (same (codes "FILE")) ∙ is.0,
  ap₂ (λ s c. way_asked s c) (sym (same (codes "slot"))) (sym (same (codes "channel"))) ∙ is.1,
)

pub latency_told : (entered : Option (Text × List Row)) (look : Text → Option Text) (found : Option ViewOrder)
    → IsNamed (codes "latency") entered
    → ((id : Text) → look id ≡ word_in entered id) → IfSome found (IsLatencyBy look) → IfSome found (IsOrder entered)
latency_told entered look None named same told = tt
latency_told entered look (Some o) named same told = by o (latency_alike look (word_in entered) same o told)
  where
    by : (o : ViewOrder) → IsLatencyBy (word_in entered) o → IsOrder entered o
    by (the_order.Capture until_fault own) is = absurd is
    by (the_order.Frames until_fault all) is = absurd is
    by the_order.Why is = absurd is
    by the_order.Fifo is = absurd is
    by the_order.Help is = absurd is
    by (the_order.Links file) is = absurd is
    by (the_order.Schedule file cycle) is = absurd is
    by (the_order.Show asked cluster scenario cycles) is = absurd is
    by (the_order.Stream asked cluster scenario cycles) is = absurd is
    by (the_order.Latency file way) is = (named, is)

asks_no_latency : (entered : Option (Text × List Row)) → IsNamed (codes "latency") entered
    → has_latency_by (word_in entered) ≡ false → asks entered ≡ false
asks_no_latency None named lacks = cc named
asks_no_latency (Some (name, rows)) named lacks =
    let is : name ≡ codes "latency" = cc named in
    subst (λ (n : Text). asks (Some (n, rows)) ≡ false) (sym is)
    (ap₂ (λ shows asked. (shows || false || false || false || false || false) || asked || false)
    (picks_none (is_endless (λ id. first_of id rows))) lacks)

pub latency_lacks : (entered : Option (Text × List Row)) (look : Text → Option Text) (found : Option ViewOrder)
    → IsNamed (codes "latency") entered
    → ((id : Text) → look id ≡ word_in entered id) → IfNone found (has_latency_by look ≡ false)
    → IfNone found (asks entered ≡ false)
latency_lacks entered look (Some o) named same lacks = tt
latency_lacks entered look None named same lacks = asks_no_latency entered named
    (sym (latency_has_alike look (word_in entered) same) ∙ lacks)

-- ---- receivers

links_alike : (f g : Text → Option Text) → ((id : Text) → f id ≡ g id) → (o : ViewOrder) → IsLinksBy f o
    → IsLinksBy g o
links_alike f g same (the_order.Capture until_fault own) is = is
links_alike f g same (the_order.Frames until_fault all) is = is
links_alike f g same the_order.Why is = is
links_alike f g same the_order.Fifo is = is
links_alike f g same the_order.Help is = is
links_alike f g same (the_order.Latency file way) is = is
links_alike f g same (the_order.Schedule file cycle) is = is
links_alike f g same (the_order.Show asked cluster scenario cycles) is = is
links_alike f g same (the_order.Stream asked cluster scenario cycles) is = is
links_alike f g same (the_order.Links file) is = sym (same (codes "FILE")) ∙ is

pub links_told : (entered : Option (Text × List Row)) (look : Text → Option Text) (found : Option ViewOrder)
    → IsNamed (codes "links") entered
    → ((id : Text) → look id ≡ word_in entered id) → IfSome found (IsLinksBy look) → IfSome found (IsOrder entered)
links_told entered look None named same told = tt
links_told entered look (Some o) named same told = by o (links_alike look (word_in entered) same o told)
  where
    by : (o : ViewOrder) → IsLinksBy (word_in entered) o → IsOrder entered o
    by (the_order.Capture until_fault own) is = absurd is
    by (the_order.Frames until_fault all) is = absurd is
    by the_order.Why is = absurd is
    by the_order.Fifo is = absurd is
    by the_order.Help is = absurd is
    by (the_order.Latency file way) is = absurd is
    by (the_order.Schedule file cycle) is = absurd is
    by (the_order.Show asked cluster scenario cycles) is = absurd is
    by (the_order.Stream asked cluster scenario cycles) is = absurd is
    by (the_order.Links file) is = (named, is)

asks_no_links : (entered : Option (Text × List Row)) → IsNamed (codes "links") entered
    → has_links_by (word_in entered) ≡ false → asks entered ≡ false
asks_no_links None named lacks = cc named
asks_no_links (Some (name, rows)) named lacks =
    let is : name ≡ codes "links" = cc named in
    subst (λ (n : Text). asks (Some (n, rows)) ≡ false) (sym is)
    (ap₂ (λ shows asked. (shows || false || false || false || false || false) || false || asked)
    (picks_none (is_endless (λ id. first_of id rows))) lacks)

pub links_lacks : (entered : Option (Text × List Row)) (look : Text → Option Text) (found : Option ViewOrder)
    → IsNamed (codes "links") entered
    → ((id : Text) → look id ≡ word_in entered id) → IfNone found (has_links_by look ≡ false)
    → IfNone found (asks entered ≡ false)
links_lacks entered look (Some o) named same lacks = tt
links_lacks entered look None named same lacks = asks_no_links entered named
    (ap is_some (sym (same (codes "FILE"))) ∙ lacks)

-- ---- views of a run

drawn_alike : (f g : Text → Option Text) → ((id : Text) → f id ≡ g id) → drawn_by f ≡ drawn_by g
drawn_alike f g same =
    ap (λ w. matrix_of (channel_asked w) (viewer_asked (f (codes "node"))) (from_asked (f (codes "from")))
    (window_asked (f (codes "from-window"))))
    (same (codes "channel"))
    ∙ ap (λ w. matrix_of (channel_asked (g (codes "channel"))) (viewer_asked w) (from_asked (f (codes "from")))
    (window_asked (f (codes "from-window"))))
    (same (codes "node"))
    ∙ ap (λ w. matrix_of (channel_asked (g (codes "channel"))) (viewer_asked (g (codes "node"))) (from_asked w)
    (window_asked (f (codes "from-window"))))
    (same (codes "from"))
    ∙ ap (λ w. matrix_of (channel_asked (g (codes "channel"))) (viewer_asked (g (codes "node")))
    (from_asked (g (codes "from"))) (window_asked w))
    (same (codes "from-window"))

-- the view of a command of this name, by the word for the node of a trace and by the picture
abbrev asked_with : Text → Option Text → Option Asked → Option Asked
asked_with name node drawn =
    if bytes_eq name (codes "outcome") then Some Outcome else if bytes_eq name (codes "answers") then Some Answers
    else if bytes_eq name (codes "commits") then Some Commits else if bytes_eq name (codes "record") then Some Record
    else if bytes_eq name (codes "windows") then Some Windows
    else if bytes_eq name (codes "reasons") then Some Reasons
    else if bytes_eq name (codes "origins") then Some Origins
    else if bytes_eq name (codes "received") then Some Received
    else if bytes_eq name (codes "bus") then Some Heard
    else if bytes_eq name (codes "trace") then option_map Trace (node_asked node)
    else if bytes_eq name (codes "matrix") then drawn else None

asked_alike : (name : Text) (f g : Text → Option Text) → ((id : Text) → f id ≡ g id) → asked_by name f ≡ asked_by name g
asked_alike name f g same = ap₂ (λ w d. asked_with name w d) (same (codes "NODE")) (drawn_alike f g same)

kept_alike : (name : Text) (f g : Text → Option Text) → ((id : Text) → f id ≡ g id) → (o : ViewOrder)
    → IsKeptBy name f o → IsKeptBy name g o
kept_alike name f g same (the_order.Capture until_fault own) is = is
kept_alike name f g same (the_order.Frames until_fault all) is = is
kept_alike name f g same the_order.Why is = is
kept_alike name f g same the_order.Fifo is = is
kept_alike name f g same the_order.Help is = is
kept_alike name f g same (the_order.Latency file way) is = is
kept_alike name f g same (the_order.Links file) is = is
kept_alike name f g same (the_order.Schedule file cycle) is = is
kept_alike name f g same (the_order.Stream asked cluster scenario cycles) is = is
kept_alike name f g same (the_order.Show asked cluster scenario cycles) is = (
  sym (asked_alike name f g same) ∙ is.0,
  sym (same (codes "FILE")) ∙ is.1,
  sym (same (codes "SCENARIO")) ∙ is.2,
  ap (λ w. option_and_then cycles_in w) (sym (same (codes "cycles"))) ∙ is.3,
)

stream_alike : (name : Text) (f g : Text → Option Text) → ((id : Text) → f id ≡ g id) → (o : ViewOrder)
    → IsStreamBy name f o → IsStreamBy name g o
stream_alike name f g same (the_order.Capture until_fault own) is = is
stream_alike name f g same (the_order.Frames until_fault all) is = is
stream_alike name f g same the_order.Why is = is
stream_alike name f g same the_order.Fifo is = is
stream_alike name f g same the_order.Help is = is
stream_alike name f g same (the_order.Latency file way) is = is
stream_alike name f g same (the_order.Links file) is = is
stream_alike name f g same (the_order.Schedule file cycle) is = is
stream_alike name f g same (the_order.Show asked cluster scenario cycles) is = is
stream_alike name f g same (the_order.Stream asked cluster scenario cycles) is = (
  is.0,
  sym (same (codes "FILE")) ∙ is.1,
  sym (same (codes "SCENARIO")) ∙ is.2,
  ap (λ w. option_and_then most_in w) (sym (same (codes "cycles"))) ∙ is.3,
)

show_if_alike : (endless : Bool) (name : Text) (f g : Text → Option Text) → ((id : Text) → f id ≡ g id)
    → (o : ViewOrder) → IsShowIf endless name f o → IsShowIf endless name g o
show_if_alike true name f g same o is = stream_alike name f g same o is
show_if_alike false name f g same o is = kept_alike name f g same o is

show_alike : (name : Text) (f g : Text → Option Text) → ((id : Text) → f id ≡ g id) → (o : ViewOrder)
    → IsShowBy name f o → IsShowBy name g o
show_alike name f g same o is =
    subst (λ (endless : Bool). IsShowIf endless name g o) (ap is_true (same (codes "endless")))
    (show_if_alike (is_endless f) name f g same o is)

-- only the two orders of a run show one
show_is_order : (endless : Bool) (entered : Text) (rows : List Row) (o : ViewOrder)
    → endless ≡ is_endless (λ id. first_of id rows) → IsShowIf endless entered (λ id. first_of id rows) o
    → IsOrder (Some (entered, rows)) o
show_is_order true entered rows (the_order.Capture until_fault own) flag is = absurd is
show_is_order true entered rows (the_order.Frames until_fault all) flag is = absurd is
show_is_order true entered rows the_order.Why flag is = absurd is
show_is_order true entered rows the_order.Fifo flag is = absurd is
show_is_order true entered rows the_order.Help flag is = absurd is
show_is_order true entered rows (the_order.Latency file way) flag is = absurd is
show_is_order true entered rows (the_order.Links file) flag is = absurd is
show_is_order true entered rows (the_order.Schedule file cycle) flag is = absurd is
show_is_order true entered rows (the_order.Show asked cluster scenario cycles) flag is = absurd is
show_is_order true entered rows (the_order.Stream asked cluster scenario cycles) flag is =
    subst (λ (endless : Bool). IsShowIf endless entered (λ id. first_of id rows)
    (the_order.Stream asked cluster scenario cycles)) flag is
show_is_order false entered rows (the_order.Capture until_fault own) flag is = absurd is
show_is_order false entered rows (the_order.Frames until_fault all) flag is = absurd is
show_is_order false entered rows the_order.Why flag is = absurd is
show_is_order false entered rows the_order.Fifo flag is = absurd is
show_is_order false entered rows the_order.Help flag is = absurd is
show_is_order false entered rows (the_order.Latency file way) flag is = absurd is
show_is_order false entered rows (the_order.Links file) flag is = absurd is
show_is_order false entered rows (the_order.Schedule file cycle) flag is = absurd is
show_is_order false entered rows (the_order.Stream asked cluster scenario cycles) flag is = absurd is
show_is_order false entered rows (the_order.Show asked cluster scenario cycles) flag is =
    subst (λ (endless : Bool). IsShowIf endless entered (λ id. first_of id rows)
    (the_order.Show asked cluster scenario cycles)) flag is

pub show_told : (entered : Option (Text × List Row)) (name : Text) (look : Text → Option Text)
    (found : Option ViewOrder) → IsNamed name entered
    → ((id : Text) → look id ≡ word_in entered id) → IfSome found (IsShowBy name look) → IfSome found (IsOrder entered)
show_told entered name look None named same told = tt
show_told None name look (Some o) named same told = cc named
show_told (Some (entered, rows)) name look (Some o) named same told =
    let is : entered ≡ name = cc named in
    show_is_order (is_endless (λ id. first_of id rows)) entered rows o refl
    (show_alike entered look (λ id. first_of id rows) same o (subst (λ (n : Text). IsShowBy n look o) (sym is) told))

-- two ways to the same words name a run alike, with its history or without
has_show_alike : (name : Text) (f g : Text → Option Text) → ((id : Text) → f id ≡ g id)
    → has_show_by name f ≡ has_show_by name g
has_show_alike name f g same =
    let kept : has_kept_by name f ≡ has_kept_by name g =
    ap₂ (λ a b. is_some a && b) (asked_alike name f g same) (has_run_alike f g same) in
    let long : has_stream_by name f ≡ has_stream_by name g =
    ap (λ b. is_some (streamed_by name) && b) (has_long_run_alike f g same) in
    ap (λ w. if is_true w then has_stream_by name f else has_kept_by name f) (same (codes "endless"))
    ∙ ap₂ (λ a b. if is_endless g then a else b) long kept

pub show_lacks : (entered : Option (Text × List Row)) (name : Text) (look : Text → Option Text)
    (found : Option ViewOrder) → IsNamed name entered
    → bytes_eq name (codes "capture") ≡ false → bytes_eq name (codes "frames") ≡ false
    → bytes_eq name (codes "why") ≡ false → bytes_eq name (codes "fifo") ≡ false
    → bytes_eq name (codes "schedule") ≡ false → bytes_eq name (codes "latency") ≡ false
    → bytes_eq name (codes "links") ≡ false
    → ((id : Text) → look id ≡ word_in entered id) → IfNone found (has_show_by name look ≡ false)
    → IfNone found (asks entered ≡ false)
show_lacks entered name look (Some o) named capture frames why fifo schedule latency links same lacks = tt
show_lacks None name look None named capture frames why fifo schedule latency links same lacks = cc named
show_lacks (Some (entered, rows)) name look None named capture frames why fifo schedule latency links same lacks =
    let is : entered ≡ name = cc named in
    let words = λ (id : Text). first_of id rows in
    let alike : has_show_by name look ≡ has_show_by name words = has_show_alike name look words same in
    subst (λ (n : Text). asks (Some (n, rows)) ≡ false) (sym is)
    (ap₂ (λ a b. a || b) (ap₂ (λ a b. a || b) (ap₂ (λ a b. a || b) (ap₂ (λ a b. a || b)
    (ap₂ (λ a b. a || b) (ap₂ (λ a b. a || b) (ap₂ (λ a b. a || b) (sym alike ∙ lacks) capture) frames) why) fifo)
    (ap (λ b. b && has_schedule_by (word_in (Some (name, rows)))) schedule))
    (ap (λ b. b && has_latency_by (word_in (Some (name, rows)))) latency))
    (ap (λ b. b && has_links_by (word_in (Some (name, rows)))) links))
