-- The lines of a reply (project-defined).
use Rattle.std.specs.Prelude.{◌≡◌, ℕ, ◌==◌, Bool, false, ◌⊎◌, List, [], ◌∷◌, ◌++◌, length, codes, Option, Some, None}
use Rattle.std.specs.Fmt.{decimal}
use Rattle.std.specs.List.{flat_map}
use Rattle.fr_lines.specs.Spelling.{line_text}
use Rattle.fr_session.specs.declared.request.Request.{Request}
use Rattle.fr_session.specs.declared.request.Request.TheVariants as request
use Rattle.fr_session.specs.Lines.{with_feed, IsLine, AreLines}
use Rattle.fr_session.specs.Reading.{asked_in}
use Rattle.fr_session.specs.Sessions.{Terms, SessionState, Does}

-- the first byte is that of the word `lines`
abbrev pub begins_block : List ℕ → Bool
begins_block [] = false
begins_block (b ∷ bytes) = b == 108

-- one line with its line feed, and no line that counts others
pub record IsOneLine (reply : List ℕ) : Type 0 where
  pub line : List ℕ
  pub is_line : IsLine line
  pub reply_is : reply ≡ with_feed line
  pub no_block : begins_block reply ≡ false

-- exactly this number of lines, each with its line feed
pub record HasLines (count : ℕ) (text : List ℕ) : Type 0 where
  pub lines : List (List ℕ)
  pub are_lines : AreLines lines
  pub text_is : text ≡ flat_map with_feed lines
  pub count_is : length lines ≡ count

-- the line `lines K`, and exactly K lines after it
pub record IsBlockReply (reply : List ℕ) : Type 0 where
  pub count : ℕ
  pub after : List ℕ
  pub reply_is : reply ≡ line_text (codes "lines" ∷ decimal count ∷ []) ++ after
  pub counted : HasLines count after

-- only a report, a trace and a record can have more lines than one
abbrev pub IsReplyTo : Option Request → List ℕ → Type 0
IsReplyTo None reply = IsOneLine reply
IsReplyTo (Some (request.Event event)) reply = IsOneLine reply
IsReplyTo (Some (request.Receive node task buffer)) reply = IsOneLine reply
IsReplyTo (Some (request.Next node task)) reply = IsOneLine reply
IsReplyTo (Some (request.Fault line)) reply = IsOneLine reply
IsReplyTo (Some (request.Faults a b)) reply = IsOneLine reply
IsReplyTo (Some request.Forget) reply = IsOneLine reply
IsReplyTo (Some request.Window) reply = IsOneLine reply
IsReplyTo (Some (request.Run cycles)) reply = IsOneLine reply
IsReplyTo (Some request.Now) reply = IsOneLine reply
IsReplyTo (Some request.At) reply = IsOneLine reply
IsReplyTo (Some (request.Report node)) reply = IsOneLine reply ⊎ IsBlockReply reply
IsReplyTo (Some (request.Status node channel)) reply = IsOneLine reply
IsReplyTo (Some (request.Trace node)) reply = IsOneLine reply ⊎ IsBlockReply reply
IsReplyTo (Some (request.Origin node)) reply = IsOneLine reply
IsReplyTo (Some (request.Record window)) reply = IsOneLine reply ⊎ IsBlockReply reply

-- a client finds the end of each reply: it is the first line feed, or that of the last counted line
abbrev pub AreWhole : Type 0
AreWhole = (terms : Terms) (old : SessionState) (number : ℕ) (line reply : List ℕ) (new : SessionState)
    → Does terms old number line reply new → IsReplyTo (asked_in line) reply
