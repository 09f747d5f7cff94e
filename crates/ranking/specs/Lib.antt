pub mod Ranked
pub mod RankBounds
pub mod RankedMore
pub mod RankedLaws
pub mod Settled
pub mod Passed
