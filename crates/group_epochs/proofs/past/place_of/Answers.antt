use Rattle.std.proofs.Common.{ℕ, ◌≡◌, ◌<◌, ◌==◌, false, None, length, get_or, subst, sym, ◌∙◌}
use Rattle.std.specs.List.{position}
use Rattle.group_epochs.specs.Past.{IsPlaceOf, fingerprint}
use Rattle.group_epochs.proofs.Remembered.{no_fingerprint, passes_none, place_searched}
use Rattle.group_epochs.proofs.past.place_of.Goals as goal

pub returns-in_err-place : goal.returns-in_err-place
returns-in_err-place c =
    let hasher = c.args.hasher.now in
    let m = c.args.id.now in
    let none : position (λ n. n == c.fingerprint.result) c.args.fingerprints.now.items ≡ None = sym c.first_place.ensures ∙ c.in_err-place.was in
    let others = passes_none (λ n. n == c.fingerprint.result) c.args.fingerprints.now.items none in
    let those = subst (λ w. (k d : ℕ) → k < length c.args.fingerprints.now.items → (get_or c.args.fingerprints.now.items k d == w) ≡ false) c.fingerprint.ensures others in
    let beside = subst (λ l. (k d : ℕ) → k < length l → (get_or l k d == fingerprint hasher m) ≡ false) c.requires those in
    subst (IsPlaceOf c.args.entries.now.items m) (sym c.from_residual.ensures) (no_fingerprint hasher c.args.entries.now.items m beside)

pub returns : goal.returns
returns c = place_searched c.args.entries.now.items c.args.id.now c.search.result c.search.ensures
