-- The whole claim: what the test lets pass holds of all tables, and what the search writes passes.
-- Assumes nothing.
use Rattle.acceptance.proofs.Claims.{claim_of_test}
use Rattle.verdicts.specs.Promises.{WholeClaim}
use Rattle.verdicts.proofs.SearchTells.{search-tells}
use Rattle.verdicts.proofs.SheetsPass.{sheets_pass}

pub whole_claim : WholeClaim
whole_claim text m says b hb n₁ n₂ h₁ h₂ =
    record {
      tested = claim_of_test text m says b hb n₁ n₂ h₁ h₂;
      searched = λ first second sheet r. (search-tells text m says first second sheet).room_there r;
      written = sheets_pass text;
    }
