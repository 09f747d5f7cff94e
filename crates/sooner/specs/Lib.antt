pub mod WhyOf
