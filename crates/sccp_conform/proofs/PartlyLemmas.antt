-- A capture that is judged as it is read.
use Rattle.std.proofs.Common.{◌≡◌, ℕ, List, [], ◌++◌, append_assoc, sym, ◌∙◌, ap, subst}
use Rattle.capture_trace.specs.declared.ending.Ending.{Ending}
use Rattle.plan_model.specs.Network.{Network}
use Rattle.relay_watch.specs.Kept.{Kept, nothing_kept, summary_of}
use Rattle.sccp_conform.specs.Reports.{answer_for, status_for, IsReport}
use Rattle.sccp_conform.specs.Steps.{AreAll, IsPartly, PutsItems}
use Rattle.sccp_conform.specs.declared.report.Report.{Report}
use Rattle.sccp_conform.proofs.AppendLemmas.{joined, none}
use Rattle.sccp_conform.proofs.JudgingLemmas.{Vouched}
use Rattle.sccp_work.specs.Judgement.{Judgement}
use Rattle.sccp_work.specs.declared.status.Status.{Status}
use Rattle.watch_items.specs.Captures.{Heard, State, after_items, ahead, heard}
use Rattle.watch_items.specs.Items.{events_in}
use Rattle.watch_items.specs.Steps.{Feeds}
use Rattle.watch_items.specs.declared.item.Item.{Item}
use Rattle.watch_text.specs.Summaries.{summary_text}

-- nothing was read
pub begun : (plan : Network) (reading : State) (kept : Kept) (text : List ℕ) → ((octets : List ℕ) → ahead reading octets ≡ heard octets)
    → kept ≡ nothing_kept plan → text ≡ [] → IsPartly plan heard reading kept text
begun plan reading kept text is nothing spelt = record {
  done = [];
  puts = subst (λ k. PutsItems plan [] (nothing_kept plan) k [] text) (sym nothing) (none plan (nothing_kept plan) text spelt);
  goes_on = λ rest. sym (is rest);
}

-- a piece was taken
pub fed : (plan : Network) (whole : List ℕ → Heard) (piece : List ℕ) (old new : State) (items : List Item) (kept next : Kept)
    (text after : List ℕ) → Feeds old piece [] items new → PutsItems plan items kept next text after → IsPartly plan whole old kept text
    → IsPartly plan (λ rest. whole (piece ++ rest)) new next after
fed plan whole piece old new items kept next text after feeds puts h = record {
  done = h.done ++ items;
  puts = joined plan h.done items (nothing_kept plan) kept next [] text after h.puts puts;
  goes_on = λ rest. h.goes_on (piece ++ rest)
      ∙ ap (after_items h.done) (feeds.goes_on rest ∙ ap (λ xs. after_items xs (ahead new rest)) (sym feeds.appended))
      ∙ ap (λ xs. with_ending xs (ahead new rest)) (sym (append_assoc h.done items (ahead new rest).items));
} where
  with_ending : List Item → Heard → Heard
  with_ending xs x = record { items = xs; ending = x.ending }

-- the end was found
pub ended : (plan : Network) (whole : List ℕ → Heard) (reading : State) (items : List Item) (ending : Ending) (kept next : Kept)
    (text after : List ℕ) → items ≡ [] ++ (ahead reading []).items → ending ≡ (ahead reading []).ending
    → PutsItems plan items kept next text after → IsPartly plan whole reading kept text → AreAll plan (whole []) ending next after
ended plan whole reading items ending kept next text after are is puts h =
    let all : whole [] ≡ after_items h.done (ahead reading []) = h.goes_on [] in (
      subst (λ (x : Heard). PutsItems plan x.items (nothing_kept plan) next [] after) (sym all)
          (subst (λ xs. PutsItems plan (h.done ++ xs) (nothing_kept plan) next [] after) are
          (joined plan h.done items (nothing_kept plan) kept next [] text after h.puts puts)),
      is ∙ ap (λ (x : Heard). x.ending) (sym all),
    )

-- the last lines are put after the text of all items
pub reported : (plan : Network) (h : Heard) (ending : Ending) (left : Kept) (text after : List ℕ) (status : Status) (r : Report) → Vouched
    → after ≡ text ++ summary_text plan (summary_of left) → status ≡ status_for (summary_of left).unexplained
    → r.status ≡ answer_for ending status → r.text ≡ after → AreAll plan h ending left text → IsReport plan h r
reported plan h ending left text after status r vouch spelt is answer whole all =
    let last : List ℕ = summary_text plan (summary_of left) in
    let j : Judgement = record { lines = all.0.lines; left = left } in
    record {
      judgement = j;
      is = vouch plan (events_in h.items) j all.0.judged all.0.watched;
      status_is = answer ∙ ap (answer_for ending) is ∙ ap (λ e. answer_for e (status_for (summary_of left).unexplained)) all.1;
      text_is = whole ∙ spelt ∙ ap (λ t. t ++ last) all.0.text_is;
    }
