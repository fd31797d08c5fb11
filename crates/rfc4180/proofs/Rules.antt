-- What RULES 19 says of tables as text holds: each field is a law of its subject. Instances are in Examples. Assumes nothing.
use mathlib.Core.Path.{sym, ◌∙◌}
use Rattle.rfc4180.specs.Rules.{TextRules}
use Rattle.rfc4180.proofs.Bytes.{closed_is}
use Rattle.rfc4180.proofs.Rows.{rows_text_rows}
use Rattle.rfc4180.proofs.Decimals.{value_numeral}
use Rattle.rfc4180.proofs.Accepted.{text_fits}
use Rattle.rfc4180.proofs.RoundTrips.{resaved_same}

pub text_rules : TextRules
text_rules = record { rows_back = λ t. rows_text_rows t ∙ sym (closed_is t); number_back = value_numeral; table_fits = text_fits; saved_stays = resaved_same }
