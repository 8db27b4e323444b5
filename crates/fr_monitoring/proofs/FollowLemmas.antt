-- A recording that is read piece by piece.
use Rattle.std.proofs.Common.{◌≡◌, ℕ, Bool, true, false, List, [], ◌++◌, refl, sym, ap, ◌∙◌, append_assoc, subst, inl}
use Rattle.std.proofs.Common.{inr, ◌⊎◌}
use Rattle.std.specs.Prelude.{Option, Some, None, Result, Ok, Err, OnOk, is_err}
use Rattle.std.specs.Io.KnownBytes.{Appends, Keeps, Consumes, IsAtEnd}
use Rattle.std.proofs.KnownBytes.{Appends-trans}
use Rattle.fr_judging.specs.Judging.{State, finish, has_finding, fresh as fresh_state}
use Rattle.fr_judging.specs.Rules.{no_clock_on}
use Rattle.fr_judging.specs.declared.rules.Rules.{Rules}
use Rattle.fr_slots.specs.declared.channel.Channel.TheVariants.{A, B}
use Rattle.fr_recording.specs.Stream.{Progress, fresh, take_bytes, records_from, refusal_of, is_refused, end_in}
use Rattle.fr_recording.specs.declared.phase.Phase.{Phase}
use Rattle.fr_recording.specs.declared.phase.Phase.TheVariants.{Refused}
use Rattle.fr_recording.specs.declared.phase.Refusal.{Refusal}
use Rattle.fr_monitoring.specs.Monitoring.{ReadFront, IsFollowed, Follows, Ends, Monitors, judged, told, end_text}
use Rattle.fr_monitoring.specs.Monitoring.{recording_text, state_after, state_at_end, StopsThere, clock_on}
use Rattle.fr_monitoring.specs.Monitoring.{clock_refusal}
use Rattle.fr_monitoring.specs.declared.error.MonitorError.{MonitorError}
use Rattle.fr_monitoring.specs.declared.error.MonitorError.TheVariants as failure
use Rattle.fr_monitoring.specs.declared.error.StreamError.{StreamError}
use Rattle.fr_monitoring.specs.declared.error.StreamError.TheVariants as stream
use Rattle.fr_monitoring.proofs.TextLemmas.{followed_none, followed_more}

-- ---- known bytes

-- a front of the input has been judged
abbrev pub SoFar : Bool → Progress → State → Option (List ℕ) → Option (List ℕ) → Progress → State → Option (List ℕ)
    → Option (List ℕ) → Type 0
SoFar frames p s text rest q t old new = ReadFront text rest (λ front left. IsFollowed frames p s q t old new front)

pub none_read : (frames : Bool) (p : Progress) (s : State) (text old : Option (List ℕ))
    → SoFar frames p s text text p s old old
none_read frames p s None old = tt
none_read frames p s (Some text) old = ([], refl, followed_none frames p s old)

-- the writer keeps its bytes
kept : (old mid new : Option (List ℕ)) (text : List ℕ) → Appends old mid text → Keeps mid new → Appends old new text
kept None mid new text before keeps = tt
kept (Some xs) None new text before keeps = absurd before
kept (Some xs) (Some ys) None text before keeps = absurd keeps
kept (Some xs) (Some ys) (Some zs) text before keeps = keeps ∙ before

followed_kept : (frames : Bool) (p q : Progress) (s t : State) (old mid new : Option (List ℕ)) (front : List ℕ)
    → IsFollowed frames p s q t old mid front → Keeps mid new → IsFollowed frames p s q t old new front
followed_kept frames p q s t old mid new front f keeps = record {
  progress_is = f.progress_is;
  state_is = f.state_is;
  text_is = kept old mid new (told frames s (records_from p front)) f.text_is keeps;
}

-- no byte was read, and none written
pub nothing_read : (frames : Bool) (p q : Progress) (s t : State) (text mid rest old now new : Option (List ℕ))
    → SoFar frames p s text mid q t old now → Keeps mid rest → Keeps now new → SoFar frames p s text rest q t old new
nothing_read frames p q s t None mid rest old now new so_far keeps writes = tt
nothing_read frames p q s t (Some text) None rest old now new so_far keeps writes = absurd so_far
nothing_read frames p q s t (Some text) (Some left) None old now new so_far keeps writes = absurd keeps
nothing_read frames p q s t (Some text) (Some left) (Some more) old now new so_far keeps writes = (
  so_far.0,
  so_far.1 ∙ ap (λ (r : List ℕ). so_far.0 ++ r) (sym keeps),
  followed_kept frames p q s t old now new so_far.0 so_far.2 writes,
)

-- a piece was read, and its lines were written
pub piece_read : (frames : Bool) (p q q' : Progress) (s t t' : State)
    (text mid rest old now flushed new : Option (List ℕ))
    (piece : List ℕ) → SoFar frames p s text mid q t old now → Keeps now flushed → Consumes mid rest piece
    → q' ≡ take_bytes q piece → t' ≡ judged t (records_from q piece)
    → Appends flushed new (told frames t (records_from q piece)) → SoFar frames p s text rest q' t' old new
piece_read frames p q q' s t t' None mid rest old now flushed new piece so_far keeps reads progress state writes = tt
piece_read frames p q q' s t t' (Some text) None rest old now flushed new piece so_far keeps reads progress state
    writes =
    absurd so_far
piece_read frames p q q' s t t' (Some text) (Some left) None old now flushed new piece so_far keeps reads progress
    state writes
    = absurd reads
piece_read frames p q q' s t t' (Some text) (Some left) (Some more) old now flushed new piece so_far keeps reads
    progress state
    writes = (
      so_far.0 ++ piece,
      so_far.1 ∙ ap (λ (r : List ℕ). so_far.0 ++ r) reads ∙ sym (append_assoc so_far.0 piece more),
      followed_more frames p q q' s t t' old flushed new so_far.0 piece
          (followed_kept frames p q s t old now flushed so_far.0 so_far.2 keeps)
          (record { progress_is = progress; state_is = state; text_is = writes }),
    )

-- a call that succeeded
pub on_ok : {A E : Type 0} {P : Type 0} (r : Result A E) (failed : Bool) → failed ≡ is_err r → failed ≡ false → OnOk r P
    → P
on_ok (Ok x) failed is fine holds = holds
on_ok (Err e) failed is fine holds = cc (sym is ∙ fine)

-- ---- the end of reading

pub ends_here : (frames : Bool) (p q : Progress) (s t : State) (text mid rest old now new : Option (List ℕ))
    → SoFar frames p s text mid q t old now → Consumes mid rest [] → IsAtEnd rest → Keeps now new
    → Follows frames p s text rest q t old new (Ok tt)
ends_here frames p q s t None mid rest old now new so_far reads end writes = tt
ends_here frames p q s t (Some text) None rest old now new so_far reads end writes = absurd so_far
ends_here frames p q s t (Some text) (Some left) None old now new so_far reads end writes = absurd reads
ends_here frames p q s t (Some text) (Some left) (Some more) old now new so_far reads end writes = (
  so_far.0,
  so_far.1 ∙ ap (λ (r : List ℕ). so_far.0 ++ r) reads,
  (followed_kept frames p q s t old now new so_far.0 so_far.2 writes, inl end),
)

pub stops_here : (frames : Bool) (p q : Progress) (s t : State) (text rest old new : Option (List ℕ))
    → SoFar frames p s text rest q t old new → is_refused q.state.phase ≡ true
    → Follows frames p s text rest q t old new (Ok tt)
stops_here frames p q s t None rest old new so_far refused = tt
stops_here frames p q s t (Some text) None old new so_far refused = absurd so_far
stops_here frames p q s t (Some text) (Some left) old new so_far refused =
    (so_far.0, so_far.1, (so_far.2, inr refused))

-- ---- the whole command

-- a file that is refused has a refusal
refuses : (phase : Phase) (q : Progress) → is_refused phase ≡ true → end_in phase q.state q.held ≡ None → ⊥
refuses (Refused refusal) q refused none = cc none
refuses phase q refused none = absurd cc

front_text : (frames : Bool) (r : Rules) (q : Progress) (t : State) (old mid new : Option (List ℕ)) (front : List ℕ)
    (over : Bool)
    → IsFollowed frames fresh (fresh_state r) q t old mid front
    → Appends mid new (end_text frames t (finish t over) q.state.skipped)
    → Appends old new (recording_text frames r front over)
front_text frames r q t old mid new front over f end =
    let is : end_text frames t (finish t over) q.state.skipped
    ≡ end_text frames (state_after r front) (state_at_end r front over) (take_bytes fresh front).state.skipped =
    ap (λ (u : State). end_text frames u (finish u over) q.state.skipped) f.state_is
    ∙ ap (λ (p : Progress). end_text frames (state_after r front) (state_at_end r front over) p.state.skipped)
    f.progress_is in
    Appends-trans old mid new (told frames (fresh_state r) (records_from fresh front))
    (end_text frames (state_after r front) (state_at_end r front over) (take_bytes fresh front).state.skipped) f.text_is
    (subst (λ (t : List ℕ). Appends mid new t) is end)

-- what was read, and what its end shows
pub monitors : (frames : Bool) (r : Rules) (q : Progress) (t : State) (text rest old mid new : Option (List ℕ))
    (followed : Result (Unit {0}) StreamError) (result : Result Bool MonitorError)
    → Follows frames fresh (fresh_state r) text rest q t old mid followed → Ends frames q t followed mid new result
    → Monitors frames r text rest old new result
monitors frames r q t text rest old mid new followed (Ok some) follows ends =
    monitors_ok frames r q t text rest old mid new some
    (subst (λ (f : Result (Unit {0}) StreamError). Follows frames fresh
    (fresh_state r) text rest q t old mid f) ends.0 follows)
    ends.1 ends.2 ends.3
  where
    monitors_ok : (frames : Bool) (r : Rules) (q : Progress) (t : State) (text rest old mid new : Option (List ℕ))
        (some : Bool)
        → Follows frames fresh (fresh_state r) text rest q t old mid (Ok tt) → refusal_of q ≡ None
        → some ≡ has_finding (finish t true) → Appends mid new (end_text frames t (finish t true) q.state.skipped)
        → Monitors frames r text rest old new (Ok some)
    monitors_ok frames r q t None rest old mid new some follows none found end = tt
    monitors_ok frames r q t (Some text) None old mid new some follows none found end = absurd follows
    monitors_ok frames r q t (Some text) (Some left) old mid new some follows none found end =
        let f : IsFollowed frames fresh (fresh_state r) q t old mid follows.0 = follows.2.0 in (
          follows.0,
          follows.1,
          (
            over follows.2.1,
            ap refusal_of (sym f.progress_is) ∙ none,
            found ∙ ap (λ (u : State). has_finding (finish u true)) f.state_is,
            front_text frames r q t old mid new follows.0 true f end,
          ),
        )
      where
        over : {left : List ℕ} → (left ≡ []) ⊎ (is_refused q.state.phase ≡ true) → left ≡ []
        over (inl end) = end
        over (inr refused) = absurd (refuses q.state.phase q refused none)
monitors frames r q t text rest old mid new followed (Err (failure.Capture refusal)) follows ends =
    monitors_refused frames r q t text rest old mid new refusal
    (subst (λ (f : Result (Unit {0}) StreamError). Follows frames fresh
    (fresh_state r) text rest q t old mid f) ends.0 follows)
    ends.1 ends.2
  where
    monitors_refused : (frames : Bool) (r : Rules) (q : Progress) (t : State) (text rest old mid new : Option (List ℕ))
        (refusal : Refusal) → Follows frames fresh (fresh_state r) text rest q t old mid (Ok tt)
        → refusal_of q ≡ Some refusal → Appends mid new (end_text frames t (finish t false) q.state.skipped)
        → Monitors frames r text rest old new (Err (failure.Capture refusal))
    monitors_refused frames r q t None rest old mid new refusal follows is end = tt
    monitors_refused frames r q t (Some text) None old mid new refusal follows is end = absurd follows
    monitors_refused frames r q t (Some text) (Some left) old mid new refusal follows is end =
        let f : IsFollowed frames fresh (fresh_state r) q t old mid follows.0 = follows.2.0 in (
          follows.0,
          follows.1,
          (
            stops follows.0 left f.progress_is follows.2.1,
            ap refusal_of (sym f.progress_is) ∙ is,
            front_text frames r q t old mid new follows.0 false f end,
          ),
        )
      where
        stops : (front left : List ℕ) → q ≡ take_bytes fresh front → (left ≡ []) ⊎ (is_refused q.state.phase ≡ true)
            → StopsThere front left
        stops front left same (inl end) = inl end
        stops front left same (inr refused) = inr (ap (λ (p : Progress). is_refused p.state.phase) (sym same) ∙ refused)
monitors frames r q t text rest old mid new followed (Err failure.Read) follows ends =
    monitors_read frames r q t text rest old mid new
    (subst (λ (f : Result (Unit {0}) StreamError). Follows frames fresh
    (fresh_state r) text rest q t old mid f) ends.0 follows)
    ends.1
  where
    monitors_read : (frames : Bool) (r : Rules) (q : Progress) (t : State) (text rest old mid new : Option (List ℕ))
        → Follows frames fresh (fresh_state r) text rest q t old mid (Err stream.Read)
        → Appends mid new (end_text frames t (finish t false) q.state.skipped)
        → Monitors frames r text rest old new (Err failure.Read)
    monitors_read frames r q t None rest old mid new follows end = tt
    monitors_read frames r q t (Some text) None old mid new follows end = absurd follows
    monitors_read frames r q t (Some text) (Some left) old mid new follows end =
        (follows.0, follows.1, front_text frames r q t old mid new follows.0 false follows.2 end)
monitors frames r q t text rest old mid new followed (Err failure.Write) follows ends = tt
monitors frames r q t text rest old mid new followed (Err failure.Memory) follows ends = absurd ends
monitors frames r q t text rest old mid new followed (Err (failure.NoClock channel cycle)) follows ends = absurd ends

-- ---- a cluster without a clock

pub keeps_all : (old : Option (List ℕ)) → Keeps old old
keeps_all None = tt
keeps_all (Some xs) = refl

abbrev IsNoClock : MonitorError → Type 0
IsNoClock (failure.NoClock channel cycle) = Unit {0}
IsNoClock e = ⊥

clock_is : (a b : Option ℕ) (e : MonitorError) → clock_on A a (clock_on B b None) ≡ Some e → IsNoClock e
clock_is None None e is = cc is
clock_is None (Some cycle) e is =
    let same : failure.NoClock B cycle ≡ e = cc is in
    subst IsNoClock same tt
clock_is (Some cycle) b e is =
    let same : failure.NoClock A cycle ≡ e = cc is in
    subst IsNoClock same tt

pub unclocked : (frames : Bool) (r : Rules) (e : MonitorError) (text old : Option (List ℕ)) → clock_refusal r ≡ Some e
    → Monitors frames r text text old old (Err e)
unclocked frames r (failure.NoClock channel cycle) text old is = (is, keeps_all text, keeps_all old)
unclocked frames r (failure.Capture refusal) text old is = absurd (clock_is (no_clock_on r A) (no_clock_on r B) _ is)
unclocked frames r failure.Read text old is = absurd (clock_is (no_clock_on r A) (no_clock_on r B) _ is)
unclocked frames r failure.Write text old is = tt
unclocked frames r failure.Memory text old is = absurd (clock_is (no_clock_on r A) (no_clock_on r B) _ is)

pub without_memory : (frames : Bool) (r : Rules) (text old : Option (List ℕ))
    → Monitors frames r text text old old (Err failure.Memory)
without_memory frames r text old = (keeps_all text, keeps_all old)
