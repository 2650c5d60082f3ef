use Rattle.ms_text_write.proofs.ReadKeywords.{load_back, numeric_back, segment_load_back, segment_store_back, store_back, value_back}
use Rattle.ms_text_write.proofs.laws.keywords_are_read_back.Goals as goal

pub returns-clause-types : goal.returns-clause-types
returns-clause-types c = value_back

pub returns-clause-numeric : goal.returns-clause-numeric
returns-clause-numeric c = numeric_back

pub returns-clause-loads : goal.returns-clause-loads
returns-clause-loads c = load_back

pub returns-clause-stores : goal.returns-clause-stores
returns-clause-stores c = store_back

pub returns-clause-segment_loads : goal.returns-clause-segment_loads
returns-clause-segment_loads c = segment_load_back

pub returns-clause-segment_stores : goal.returns-clause-segment_stores
returns-clause-segment_stores c = segment_store_back
