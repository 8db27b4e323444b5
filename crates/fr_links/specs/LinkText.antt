-- The text of a cluster's links (project-defined).
use Rattle.std.specs.Prelude.{ℕ, ◌-◌, ◌*◌, Bool, true, false, List, [], ◌∷◌, ◌++◌, codes, Option, Some, None}
use Rattle.std.specs.Fmt.{decimal}
use Rattle.std.specs.List.{flat_map}
use Rattle.fr_lines.specs.Parts.{absent, optional_number}
use Rattle.fr_lines.specs.Spelling.{line_feed}
use Rattle.fr_text.specs.Spaces.{line_of}
use Rattle.fr_slots.specs.Admission.{letter_of}
use Rattle.fr_slots.specs.Parameters.{Parameters, is_static_slot}
use Rattle.fr_schedule.specs.Descriptions.{Description}
use Rattle.fr_links.specs.declared.links.Link.{Link}
use Rattle.fr_links.specs.declared.receivers.Receiver.{Receiver}
use Rattle.fr_links.specs.Links.{links}
use Rattle.fr_links.specs.Receivers.{receivers}

-- ---- receivers

abbrev pub place_word : Option ℕ → List ℕ
place_word None = codes "queue"
place_word (Some buffer) = codes "b" ++ decimal buffer

abbrev pub receiver_word : Receiver → List ℕ
receiver_word r = decimal r.node ++ codes ":" ++ place_word r.buffer

abbrev pub further_word : Receiver → List ℕ
further_word r = codes "," ++ receiver_word r

-- with commas between them, or a dash if there are none
abbrev pub receivers_word : List Receiver → List ℕ
receivers_word [] = absent
receivers_word (r ∷ rs) = receiver_word r ++ flat_map further_word rs

-- ---- a link

abbrev pub segment_word : Bool → List ℕ
segment_word true = codes "static"
segment_word false = codes "dynamic"

-- the node, and the buffer or a dash
abbrev pub sender_text : Link → List ℕ
sender_text l = line_of (decimal l.node ∷ optional_number l.buffer ∷ [])

-- after a space, the slot, the channel, the cycles and the words
abbrev pub slot_text : Parameters → Link → List ℕ
slot_text p l =
    codes " "
    ++ line_of
    (segment_word (is_static_slot p l.slot) ∷ decimal l.slot ∷ letter_of l.channel ∷ decimal l.cycles.base
    ∷ decimal l.cycles.repetition ∷ decimal l.words ∷ [])

-- after a space, the macroticks of the cycle at which a static slot begins and ends (chapter 5), or two dashes
abbrev pub times_by : Bool → Parameters → Link → List ℕ
times_by true p l = codes " " ++ line_of (decimal ((l.slot - 1) * p.static_mt) ∷ decimal (l.slot * p.static_mt) ∷ [])
times_by false p l = codes " - -"

abbrev pub times_text : Parameters → Link → List ℕ
times_text p l = times_by (is_static_slot p l.slot) p l

abbrev pub front_text : Parameters → Link → List ℕ
front_text p l = sender_text l ++ slot_text p l ++ times_text p l

abbrev pub back_text : List Receiver → List ℕ
back_text rs = codes " " ++ receivers_word rs ++ line_feed

abbrev pub link_line : Description → Link → List ℕ
link_line d l = front_text d.params l ++ back_text (receivers d.plans l)

-- ---- the cluster

abbrev pub links_text : Description → List ℕ
links_text d = flat_map (link_line d) (links d)
